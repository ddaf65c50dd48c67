-- The pieces of a printed message: they spell its text, each is cut off where it ends, and their symbols are fields.
use Rattle.std.specs.List.{flat_map, list_all, prefix_len}
use Rattle.std.specs.Fmt.{decimal, signed_decimal}
use Rattle.std.specs.Str.{is_utf8}
use Rattle.std.proofs.lemmas.Bool.Decides.{nat_tests}
use Rattle.std.proofs.Common.{◌≡◌, ℕ, zero, suc, ◌+◌, ◌^◌, ◌<◌, Bool, true, false, ◌==◌, ◌&&◌, ℤ, pos, negsuc, unsigned_abs, List, [], ◌∷◌, ◌++◌, map, length, refl, sym, ap, ◌∙◌, append_assoc, arith}
use Rattle.cps_lex.specs.declared.types.TokenKind.TheVariants.{Identifier, Decimal, Text, Sign}
use Rattle.cps_lex.specs.Bytes.{is_space, is_word_start, is_word, is_digit, is_sign, is_exponent_mark, is_number_part}
use Rattle.cps_lex.specs.Forms.{is_identifier, is_decimal}
use Rattle.cps_lex.specs.Scan.{scan, number_run, has_signs, number_at}
use Rattle.cps_textproto.specs.declared.symbol.Bracket.TheVariants.{Brace}
use Rattle.cps_textproto.specs.Grammar.{Scalar, minus_number, texts, none, Fields, end, scalar, scalars, scalar_then, others_then, fields_then, Nests}
use Rattle.cps_textproto.specs.Grammar as grammar
use Rattle.cps_print.specs.Layout.{PrintedMessage, empty, number, numbers, word, quoted, message, indent, start_of, value_line, behind_comma, in_brackets, opening, closing, text_of}
use Rattle.cps_print.specs.Quoting.{in_quotes}
use Rattle.cps_print.proofs.Digits.{decimal_text, and_true}
use Rattle.cps_print.proofs.Pieces.{Piece, blank, lexeme, spelled, symbols_of, IsBlank, IsLexeme, AreSound, take-front}
use Rattle.cps_print.proofs.Quoted.{text_lexeme}

-- a message of fields that are read: names and words that are identifiers, numbers of at most 64 bits, texts that are
-- UTF-8, at most so many messages in each other
abbrev pub IsShort : ℤ → Type 0
IsShort n = unsigned_abs n < 2 ^ 64

abbrev pub AreShort : List ℤ → Type 0
AreShort [] = Unit {0}
AreShort (n ∷ ns) = IsShort n × AreShort ns

abbrev pub IsPlain : ℕ → PrintedMessage → Type 0
IsPlain room empty = Unit {0}
IsPlain room (number name n more) = (is_identifier name ≡ true) × IsShort n × IsPlain room more
IsPlain room (numbers name n ns more) = (is_identifier name ≡ true) × IsShort n × AreShort ns × IsPlain room more
IsPlain room (word name w more) = (is_identifier name ≡ true) × (is_identifier w ≡ true) × IsPlain room more
IsPlain room (quoted name bytes more) = (is_identifier name ≡ true) × (is_utf8 bytes ≡ true) × IsPlain room more
IsPlain zero (message name fields more) = ⊥
IsPlain (suc room) (message name fields more) =
    (is_identifier name ≡ true) × IsPlain room fields × IsPlain (suc room) more

-- the pieces of a message in front of others

abbrev pub sign : ℕ → Piece
sign b = lexeme Sign (b ∷ [])

abbrev pub number_pieces : ℤ → List Piece → List Piece
number_pieces (pos n) rest = lexeme Decimal (decimal n) ∷ rest
number_pieces (negsuc n) rest = sign 45 ∷ lexeme Decimal (decimal (suc n)) ∷ rest

abbrev pub others_pieces : List ℤ → List Piece → List Piece
others_pieces [] rest = rest
others_pieces (n ∷ ns) rest = sign 44 ∷ blank 32 ∷ number_pieces n (others_pieces ns rest)

abbrev pub indent_pieces : ℕ → List Piece → List Piece
indent_pieces zero rest = rest
indent_pieces (suc level) rest = blank 32 ∷ blank 32 ∷ indent_pieces level rest

abbrev pub pieces : ℕ → PrintedMessage → List Piece → List Piece
pieces level empty rest = rest
pieces level (number name n more) rest =
    indent_pieces level (lexeme Identifier name ∷ sign 58 ∷ blank 32 ∷ number_pieces n (blank 10 ∷ pieces level more rest))
pieces level (numbers name n ns more) rest =
    indent_pieces level
    (lexeme Identifier name ∷ sign 58 ∷ blank 32 ∷ sign 91
    ∷ number_pieces n (others_pieces ns (sign 93 ∷ blank 10 ∷ pieces level more rest)))
pieces level (word name w more) rest =
    indent_pieces level (lexeme Identifier name ∷ sign 58 ∷ blank 32 ∷ lexeme Identifier w ∷ blank 10 ∷ pieces level more rest)
pieces level (quoted name bytes more) rest =
    indent_pieces level (lexeme Identifier name ∷ sign 58 ∷ blank 32 ∷ lexeme Text (in_quotes bytes) ∷ blank 10 ∷ pieces level more rest)
pieces level (message name fields more) rest =
    indent_pieces level
    (lexeme Identifier name ∷ blank 32 ∷ sign 123 ∷ blank 10
    ∷ pieces (suc level) fields (indent_pieces level (sign 125 ∷ blank 10 ∷ pieces level more rest)))

-- they spell the text

spelled-indent : (level : ℕ) (ps : List Piece) → spelled (indent_pieces level ps) ≡ indent level ++ spelled ps
spelled-indent zero ps = refl
spelled-indent (suc level) ps = ap (λ xs. 32 ∷ 32 ∷ xs) (spelled-indent level ps)

spelled-number : (n : ℤ) (ps : List Piece) → spelled (number_pieces n ps) ≡ signed_decimal n ++ spelled ps
spelled-number (pos n) ps = refl
spelled-number (negsuc n) ps = refl

spelled-others : (ns : List ℤ) (ps : List Piece) → spelled (others_pieces ns ps) ≡ flat_map (behind_comma signed_decimal) ns ++ spelled ps
spelled-others [] ps = refl
spelled-others (n ∷ ns) ps =
    ap (λ xs. 44 ∷ 32 ∷ xs)
    (spelled-number n (others_pieces ns ps)
    ∙ (ap (λ xs. signed_decimal n ++ xs) (spelled-others ns ps)
    ∙ sym (append_assoc (signed_decimal n) (flat_map (behind_comma signed_decimal) ns) (spelled ps))))

value_pieces : (level : ℕ) (name value more after : List ℕ) → indent level ++ (name ++ 58 ∷ 32 ∷ (value ++ 10 ∷ (more ++ after))) ≡ (value_line level name value ++ more) ++ after
unfolding value_line start_of
value_pieces level name value more after = simp append_assoc

message_lines : (level : ℕ) (name inner more after : List ℕ) → indent level ++ (name ++ 32 ∷ 123 ∷ 10 ∷ (inner ++ (indent level ++ 125 ∷ 10 ∷ (more ++ after)))) ≡ (opening level name ++ (inner ++ (closing level ++ more))) ++ after
unfolding opening closing start_of
message_lines level name inner more after = simp append_assoc

list_value : (first others after : List ℕ) → 91 ∷ (first ++ (others ++ 93 ∷ 10 ∷ after)) ≡ (91 ∷ (first ++ (others ++ 93 ∷ []))) ++ 10 ∷ after
list_value first others after = ap (λ xs. 91 ∷ xs) (simp append_assoc)

pub spelled-pieces : (room level : ℕ) (m : PrintedMessage) (rest : List Piece) → IsPlain room m → spelled (pieces level m rest) ≡ text_of level m ++ spelled rest
unfolding text_of
spelled-pieces room level empty rest p = refl
spelled-pieces room level (number name n more) rest p =
    let after = spelled-pieces room level more rest p.2 in
    spelled-indent level _
    ∙ (ap (λ xs. indent level ++ (name ++ 58 ∷ 32 ∷ xs)) (spelled-number n (blank 10 ∷ pieces level more rest) ∙ ap (λ xs. signed_decimal n ++ 10 ∷ xs) after)
    ∙ value_pieces level name (signed_decimal n) (text_of level more) (spelled rest))
spelled-pieces room level (numbers name n ns more) rest p =
    let after = spelled-pieces room level more rest p.3 in
    let items : spelled (number_pieces n (others_pieces ns (sign 93 ∷ blank 10 ∷ pieces level more rest))) ≡ signed_decimal n ++ (flat_map (behind_comma signed_decimal) ns ++ 93 ∷ 10 ∷ (text_of level more ++ spelled rest)) =
    spelled-number n _ ∙ ap (λ xs. signed_decimal n ++ xs) (spelled-others ns _ ∙ ap (λ xs. flat_map (behind_comma signed_decimal) ns ++ 93 ∷ 10 ∷ xs) after) in
    spelled-indent level _
    ∙ (ap (λ xs. indent level ++ (name ++ 58 ∷ 32 ∷ 91 ∷ xs)) items
    ∙ (ap (λ xs. indent level ++ (name ++ 58 ∷ 32 ∷ xs)) (list_value (signed_decimal n) (flat_map (behind_comma signed_decimal) ns) (text_of level more ++ spelled rest))
    ∙ value_pieces level name (in_brackets signed_decimal n ns) (text_of level more) (spelled rest)))
spelled-pieces room level (word name w more) rest p =
    spelled-indent level _
    ∙ (ap (λ xs. indent level ++ (name ++ 58 ∷ 32 ∷ (w ++ 10 ∷ xs))) (spelled-pieces room level more rest p.2)
    ∙ value_pieces level name w (text_of level more) (spelled rest))
spelled-pieces room level (quoted name bytes more) rest p =
    spelled-indent level _
    ∙ (ap (λ xs. indent level ++ (name ++ 58 ∷ 32 ∷ (in_quotes bytes ++ 10 ∷ xs))) (spelled-pieces room level more rest p.2)
    ∙ value_pieces level name (in_quotes bytes) (text_of level more) (spelled rest))
spelled-pieces zero level (message name fields more) rest p = absurd p
spelled-pieces (suc room) level (message name fields more) rest p =
    let after = spelled-pieces (suc room) level more rest p.2 in
    let inner = spelled-pieces room (suc level) fields (indent_pieces level (sign 125 ∷ blank 10 ∷ pieces level more rest)) p.1 in
    spelled-indent level _
    ∙ (ap (λ xs. indent level ++ (name ++ 32 ∷ 123 ∷ 10 ∷ xs))
    (inner ∙ ap (λ xs. text_of (suc level) fields ++ xs) (spelled-indent level _ ∙ ap (λ xs. indent level ++ 125 ∷ 10 ∷ xs) after))
    ∙ message_lines level name (text_of (suc level) fields) (text_of level more) (spelled rest))

-- each piece is cut off where it ends

space : IsBlank 32
unfolding is_space
space = record { space = refl; no_comment = refl }

line_end : IsBlank 10
unfolding is_space
line_end = record { space = refl; no_comment = refl }

colon : (after : List ℕ) → IsLexeme Sign (58 ∷ []) after
unfolding scan is_word_start is_digit is_sign is_space
colon after = record { some = omega arith; scans = refl; starts = refl }

comma : (after : List ℕ) → IsLexeme Sign (44 ∷ []) after
unfolding scan is_word_start is_digit is_sign is_space
comma after = record { some = omega arith; scans = refl; starts = refl }

minus : (after : List ℕ) → IsLexeme Sign (45 ∷ []) after
unfolding scan is_word_start is_digit is_sign is_space
minus after = record { some = omega arith; scans = refl; starts = refl }

list_begin : (after : List ℕ) → IsLexeme Sign (91 ∷ []) after
unfolding scan is_word_start is_digit is_sign is_space
list_begin after = record { some = omega arith; scans = refl; starts = refl }

list_end : (after : List ℕ) → IsLexeme Sign (93 ∷ []) after
unfolding scan is_word_start is_digit is_sign is_space
list_end after = record { some = omega arith; scans = refl; starts = refl }

message_begin : (after : List ℕ) → IsLexeme Sign (123 ∷ []) after
unfolding scan is_word_start is_digit is_sign is_space
message_begin after = record { some = omega arith; scans = refl; starts = refl }

message_end : (after : List ℕ) → IsLexeme Sign (125 ∷ []) after
unfolding scan is_word_start is_digit is_sign is_space
message_end after = record { some = omega arith; scans = refl; starts = refl }

-- a run of bytes ends where the next does not pass
prefix_len-run : (p : ℕ → Bool) (bs : List ℕ) (c : ℕ) (after : List ℕ) → list_all p bs ≡ true → p c ≡ false → prefix_len p (bs ++ c ∷ after) ≡ length bs
prefix_len-run p [] c after all e = rw e refl
prefix_len-run p (b ∷ bs) c after all e =
    let both = and_true (p b) (list_all p bs) all in
    rw (both.0, prefix_len-run p bs c after both.1 e) (omega arith)

word_not_blank : (b : ℕ) → is_word_start b ≡ true → (b == 35) ≡ false
unfolding is_word_start
word_not_blank b e = grind (arith, nat_tests)

word_not_space : (b : ℕ) → is_word_start b ≡ true → is_space b ≡ false
unfolding is_word_start is_space
word_not_space b e = grind (arith, nat_tests)

digit_not_blank : (b : ℕ) → is_digit b ≡ true → (b == 35) ≡ false
unfolding is_digit
digit_not_blank b e = grind (arith, nat_tests)

digit_not_space : (b : ℕ) → is_digit b ≡ true → is_space b ≡ false
unfolding is_digit is_space
digit_not_space b e = grind (arith, nat_tests)

digit_not_word : (b : ℕ) → is_digit b ≡ true → is_word_start b ≡ false
unfolding is_digit is_word_start
digit_not_word b e = grind (arith, nat_tests)

digit_is_part : (b : ℕ) → is_digit b ≡ true → is_number_part b ≡ true
unfolding is_digit is_word
digit_is_part b e = grind (arith, nat_tests)

name_lexeme : (name : List ℕ) (c : ℕ) (after : List ℕ) → is_identifier name ≡ true → is_word c ≡ false → IsLexeme Identifier name (c ∷ after)
unfolding scan
name_lexeme [] c after e ends = cc
name_lexeme (b ∷ bs) c after e ends =
    let both = and_true (is_word_start b) (list_all is_word bs) e in
    let run = prefix_len-run is_word bs c after both.1 ends in
    let size : 1 + length bs ≡ suc (length bs) = omega arith in
    record {
      some = omega arith;
      scans = rw (both.0, run, size) refl;
      starts = rw (word_not_blank b both.0, word_not_space b both.0) refl;
    }

name_before_colon : (name after : List ℕ) → is_identifier name ≡ true → IsLexeme Identifier name (58 ∷ after)
unfolding is_word
name_before_colon name after e = name_lexeme name 58 after e refl

name_before_space : (name after : List ℕ) → is_identifier name ≡ true → IsLexeme Identifier name (32 ∷ after)
unfolding is_word
name_before_space name after e = name_lexeme name 32 after e refl

word_before_line : (w after : List ℕ) → is_identifier w ≡ true → IsLexeme Identifier w (10 ∷ after)
unfolding is_word
word_before_line w after e = name_lexeme w 10 after e refl

digit_no_mark : (b : ℕ) → is_digit b ≡ true → is_exponent_mark b ≡ false
unfolding is_digit is_exponent_mark
digit_no_mark b e = grind (arith, nat_tests)

and_false : (b : Bool) → (b && false) ≡ false
and_false true = refl
and_false false = refl

-- a run of digits ends where nothing of a number is next
run_digits : (signs : Bool) (bs : List ℕ) (c : ℕ) (after : List ℕ) → list_all is_digit bs ≡ true → is_number_part c ≡ false → number_run signs false (bs ++ c ∷ after) ≡ length bs
run_digits signs [] c after all ends = rw ends refl
run_digits signs (b ∷ bs) c after all ends =
    let both = and_true (is_digit b) (list_all is_digit bs) all in
    rw (digit_is_part b both.0, digit_no_mark b both.0, and_false signs, run_digits signs bs c after both.1 ends) (omega arith)

digits_lexeme : (b : ℕ) (bs : List ℕ) (c : ℕ) (after : List ℕ) → is_digit b ≡ true → list_all is_digit bs ≡ true → is_decimal (b ∷ bs) ≡ true → is_number_part c ≡ false → IsLexeme Decimal (b ∷ bs) (c ∷ after)
unfolding scan number_at
digits_lexeme b bs c after first digits form ends =
    let run = run_digits (has_signs (bs ++ c ∷ after)) bs c after digits ends in
    let size : 1 + length bs ≡ suc (length bs) = omega arith in
    record {
      some = omega arith;
      scans = rw (digit_not_word b first, run, take-front bs (c ∷ after), form, first, size) refl;
      starts = rw (digit_not_blank b first, digit_not_space b first) refl;
    }

decimal_lexeme : (n c : ℕ) (after : List ℕ) → n < 2 ^ 64 → is_number_part c ≡ false → IsLexeme Decimal (decimal n) (c ∷ after)
decimal_lexeme n c after h ends =
    let t = decimal_text n h in
    rw t.is (digits_lexeme t.first t.others c after t.digit t.digits t.form ends)

-- pieces whose text begins with a byte behind which no number goes on
pub record Ends (ps : List Piece) : Type 0 where
  pub next : ℕ
  pub after : List ℕ
  pub is : spelled ps ≡ next ∷ after
  pub stops : is_number_part next ≡ false

number_sound : (n : ℤ) (ps : List Piece) → IsShort n → Ends ps → AreSound ps → AreSound (number_pieces n ps)
number_sound (pos n) ps h e s = (rw e.is (decimal_lexeme n e.next e.after h e.stops), s)
number_sound (negsuc n) ps h e s = (minus _, (rw e.is (decimal_lexeme (suc n) e.next e.after h e.stops), s))

ends_line : (ps : List Piece) → Ends (blank 10 ∷ ps)
unfolding is_word
ends_line ps = record { next = 10; after = spelled ps; is = refl; stops = refl }

ends_list : (ps : List Piece) → Ends (sign 93 ∷ ps)
unfolding is_word
ends_list ps = record { next = 93; after = spelled ps; is = refl; stops = refl }

others_end : (ns : List ℤ) (ps : List Piece) → Ends ps → Ends (others_pieces ns ps)
unfolding is_word
others_end [] ps e = e
others_end (n ∷ ns) ps e = record { next = 44; after = 32 ∷ spelled (number_pieces n (others_pieces ns ps)); is = refl; stops = refl }

others_sound : (ns : List ℤ) (ps : List Piece) → AreShort ns → Ends ps → AreSound ps → AreSound (others_pieces ns ps)
others_sound [] ps h e s = s
others_sound (n ∷ ns) ps h e s =
    (comma _, (space, number_sound n (others_pieces ns ps) h.0 (others_end ns ps e) (others_sound ns ps h.1 e s)))

indent_sound : (level : ℕ) (ps : List Piece) → AreSound ps → AreSound (indent_pieces level ps)
indent_sound zero ps s = s
indent_sound (suc level) ps s = (space, (space, indent_sound level ps s))

pub pieces_sound : (room level : ℕ) (m : PrintedMessage) (rest : List Piece) → IsPlain room m → AreSound rest → AreSound (pieces level m rest)
pieces_sound room level empty rest p s = s
pieces_sound room level (number name n more) rest p s =
    let after = pieces_sound room level more rest p.2 s in
    indent_sound level _ (
      name_before_colon name _ p.0,
      (
        colon _,
        (
          space,
          number_sound n (blank 10 ∷ pieces level more rest) p.1 (ends_line (pieces level more rest)) (line_end, after),
        ),
      ),
    )
pieces_sound room level (numbers name n ns more) rest p s =
    let after = pieces_sound room level more rest p.3 s in
    let last : List Piece = sign 93 ∷ blank 10 ∷ pieces level more rest in
    let others = others_sound ns last p.2 (ends_list (blank 10 ∷ pieces level more rest)) (list_end _, (line_end, after)) in
    indent_sound level _ (
      name_before_colon name _ p.0,
      (
        colon _,
        (
          space,
          (
            list_begin _,
            number_sound n (others_pieces ns last) p.1 (others_end ns last (ends_list (blank 10 ∷ pieces level more rest))) others,
          ),
        ),
      ),
    )
pieces_sound room level (word name w more) rest p s =
    let after = pieces_sound room level more rest p.2 s in
    indent_sound level _ (name_before_colon name _ p.0, (colon _, (space, (word_before_line w _ p.1, (line_end, after)))))
pieces_sound room level (quoted name bytes more) rest p s =
    let after = pieces_sound room level more rest p.2 s in
    indent_sound level _ (name_before_colon name _ p.0, (colon _, (space, (text_lexeme bytes _ p.1, (line_end, after)))))
pieces_sound zero level (message name fields more) rest p s = absurd p
pieces_sound (suc room) level (message name fields more) rest p s =
    let after = pieces_sound (suc room) level more rest p.2 s in
    let close = indent_sound level (sign 125 ∷ blank 10 ∷ pieces level more rest) (message_end _, (line_end, after)) in
    indent_sound level _ (
      name_before_space name _ p.0,
      (
        space,
        (
          message_begin _,
          (
            line_end,
            pieces_sound room (suc level) fields (indent_pieces level (sign 125 ∷ blank 10 ∷ pieces level more rest)) p.1 close,
          ),
        ),
      ),
    )

-- their symbols are fields of the grammar

abbrev pub scalar_of : ℤ → Scalar
scalar_of (pos n) = grammar.number
scalar_of (negsuc n) = minus_number

abbrev pub fields_of : PrintedMessage → Fields
fields_of empty = end
fields_of (number name n more) = scalar (scalar_of n) none (fields_of more)
fields_of (numbers name n ns more) = scalars (scalar_of n) (map scalar_of ns) none (fields_of more)
fields_of (word name w more) = scalar grammar.word none (fields_of more)
fields_of (quoted name bytes more) = scalar (texts 0) none (fields_of more)
fields_of (message name fields more) = grammar.message false Brace (fields_of fields) none (fields_of more)

symbols-indent : (level : ℕ) (ps : List Piece) → symbols_of (indent_pieces level ps) ≡ symbols_of ps
symbols-indent zero ps = refl
symbols-indent (suc level) ps = symbols-indent level ps

symbols-number : (n : ℤ) (ps : List Piece) → symbols_of (number_pieces n ps) ≡ scalar_then (scalar_of n) (symbols_of ps)
symbols-number (pos n) ps = refl
symbols-number (negsuc n) ps = refl

symbols-others : (ns : List ℤ) (ps : List Piece) → symbols_of (others_pieces ns ps) ≡ others_then (map scalar_of ns) (symbols_of ps)
symbols-others [] ps = refl
symbols-others (n ∷ ns) ps = rw (symbols-number n (others_pieces ns ps), symbols-others ns ps) refl

pub symbols-pieces : (room level : ℕ) (m : PrintedMessage) (rest : List Piece) → IsPlain room m → symbols_of (pieces level m rest) ≡ fields_then (fields_of m) (symbols_of rest)
symbols-pieces room level empty rest p = refl
symbols-pieces room level (number name n more) rest p =
    symbols-indent level _ ∙ rw (symbols-number n (blank 10 ∷ pieces level more rest), symbols-pieces room level more rest p.2) refl
symbols-pieces room level (numbers name n ns more) rest p =
    symbols-indent level _
    ∙ rw (symbols-number n (others_pieces ns (sign 93 ∷ blank 10 ∷ pieces level more rest)), symbols-others ns (sign 93 ∷ blank 10 ∷ pieces level more rest), symbols-pieces room level more rest p.3) refl
symbols-pieces room level (word name w more) rest p = symbols-indent level _ ∙ rw (symbols-pieces room level more rest p.2) refl
symbols-pieces room level (quoted name bytes more) rest p = symbols-indent level _ ∙ rw (symbols-pieces room level more rest p.2) refl
symbols-pieces zero level (message name fields more) rest p = absurd p
symbols-pieces (suc room) level (message name fields more) rest p =
    symbols-indent level _
    ∙ rw (symbols-pieces room (suc level) fields (indent_pieces level (sign 125 ∷ blank 10 ∷ pieces level more rest)) p.1, symbols-indent level (sign 125 ∷ blank 10 ∷ pieces level more rest), symbols-pieces (suc room) level more rest p.2) refl

pub fields_nest : (room : ℕ) (m : PrintedMessage) → IsPlain room m → Nests room (fields_of m)
fields_nest room empty p = tt
fields_nest room (number name n more) p = fields_nest room more p.2
fields_nest room (numbers name n ns more) p = fields_nest room more p.3
fields_nest room (word name w more) p = fields_nest room more p.2
fields_nest room (quoted name bytes more) p = fields_nest room more p.2
fields_nest zero (message name fields more) p = absurd p
fields_nest (suc room) (message name fields more) p = (fields_nest room fields p.1, fields_nest (suc room) more p.2)

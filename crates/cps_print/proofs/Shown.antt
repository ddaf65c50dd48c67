-- The tree of a printed message shows its fields, and what is read of it is what was printed.
use Rattle.std.specs.Prelude.{map, slice_get, if◌then◌else◌}
use Rattle.std.specs.List.{list_all, AllZip}
use Rattle.std.specs.Str.{bytes_eq, is_utf8}
use Rattle.std.specs.Option.{option_or, option_map, option_map_or, unwrap_or}
use Rattle.std.proofs.lemmas.Slice.Eq.{bytes_eq-Decides}
use Rattle.std.specs.Fmt.{decimal}
use Rattle.std.proofs.lemmas.Bool.Decides.{nat_tests}
use Rattle.std.proofs.Common.{◌≡◌, ◌≢◌, ℕ, zero, suc, ◌-◌, ◌^◌, ◌<◌, Bool, true, false, ◌==◌, ◌||◌, ℤ, pos, negsuc, List, [], ◌∷◌, ◌++◌, take, drop, Option, Some, None, is_some, Ok, refl, sym, ap, ◌∙◌, append-nil, add-one, arith}
use Rattle.cps_lex.specs.declared.types.Token.{Token}
use Rattle.cps_lex.specs.declared.types.TokenKind.TheVariants.{Identifier, Decimal, Text}
use Rattle.cps_lex.specs.Bytes.{is_digit, is_word_start, is_word}
use Rattle.cps_lex.specs.Forms.{is_identifier}
use Rattle.cps_lex.specs.Tokens.{text_of}
use Rattle.cps_lex.specs.Texts.{text_value}
use Rattle.cps_textproto.specs.Trees.{Tree, no_fields, field, Values, no_values, scalar_value, message_value}
use Rattle.cps_textproto.specs.Reading.{past_scalar, past_others, past_fields, others_at, tree_at}
use Rattle.cps_schema.specs.Written.{Written, token_text, token_kind, is_negative, unsigned_token, size_at, number_at}
use Rattle.cps_schema.specs.Numbers.{fits, number_fault}
use Rattle.cps_schema.specs.Texts.{text_at}
use Rattle.cps_schema.specs.Members.{member_at, member_named}
use Rattle.cps_schema.specs.Truths.{truth_named, truth_at}
use Rattle.cps_schema.specs.declared.form.Form.{Form}
use Rattle.cps_schema.specs.declared.member.Enum.{Enum}
use Rattle.cps_schema.specs.declared.number.Number.{Number}
use Rattle.cps_schema.specs.Tables as tables
use Rattle.cps_schema.specs.Tables.{Content, Use, use_of, content_of, is_given}
use Rattle.cps_schema.specs.Faults.{refused_at, has_kind, has_other_form, name_fault, list_fault, is_alone, fields_fault, values_fault}
use Rattle.cps_schema.specs.Readings as readings
use Rattle.cps_schema.specs.Readings.{ok_or_zero, value_numbers, value_messages, messages}
use Rattle.cps_print.specs.Layout.{PrintedMessage, empty, number, numbers, word, quoted, message}
use Rattle.cps_print.specs.Quoting.{in_quotes}
use Rattle.cps_print.proofs.Digits.{decimal_text, decimal_value-decimal, and_true}
use Rattle.cps_print.proofs.Pieces.{Piece, blank, AreWritten}
use Rattle.cps_print.proofs.Quoted.{quoted_text}
use Rattle.cps_print.proofs.Cuts.{IsShort, AreShort, IsPlain, sign, number_pieces, others_pieces, indent_pieces, pieces, scalar_of, fields_of}

-- a scalar that begins at this token is this number
pub record ShowsNumber (w : Written) (n : ℤ) (first : ℕ) : Type 0 where
  pub worth : number_at w first ≡ n
  pub kind : token_kind w (unsigned_token w first) ≡ Some Decimal

abbrev pub ShowNumbers : Written → List ℤ → Values → Type 0
ShowNumbers w [] no_values = Unit {0}
ShowNumbers w (n ∷ ns) (scalar_value first end rest) = ShowsNumber w n first × ShowNumbers w ns rest
ShowNumbers w _ _ = ⊥

-- a word gives the member and the truth value of that name
pub record ShowsWord (w : Written) (x : List ℕ) (first : ℕ) : Type 0 where
  pub member : (enum : Enum) → member_at w enum first ≡ member_named enum false x
  pub truth : truth_at w first ≡ truth_named x

abbrev pub Shows : Written → PrintedMessage → Tree → Type 0
Shows w empty no_fields = Unit {0}
Shows w (number name n more) (field token false values rest) =
    (token_text w token ≡ name) × ShowNumbers w (n ∷ []) values × Shows w more rest
Shows w (numbers name n ns more) (field token true values rest) =
    (token_text w token ≡ name) × ShowNumbers w (n ∷ ns) values × Shows w more rest
Shows w (word name x more) (field token false (scalar_value first end no_values) rest) =
    (token_text w token ≡ name) × ShowsWord w x first × Shows w more rest
Shows w (quoted name bytes more) (field token false (scalar_value first end no_values) rest) =
    (token_text w token ≡ name) × (text_at w first end ≡ Some bytes) × Shows w more rest
Shows w (message name inner more) (field token false (message_value first tree no_values) rest) =
    (token_text w token ≡ name) × Shows w inner tree × Shows w more rest
Shows w _ _ = ⊥

-- the tree shows what is written on the tokens

-- a token of its own is taken alone
one_taken : {X : Type 0} (xs : List X) (k : ℕ) (x : X) → slice_get xs k ≡ Some x → take 1 (drop k xs) ≡ x ∷ []
one_taken [] zero x e = cc
one_taken [] (suc k) x e = cc
one_taken (y ∷ xs) zero x e = let same : y ≡ x = cc in rw same refl
one_taken (y ∷ xs) (suc k) x e = one_taken xs k x e

text_shown : (w : Written) (k : ℕ) (bytes : List ℕ) → is_utf8 bytes ≡ true → token_text w k ≡ in_quotes bytes → token_kind w k ≡ Some Text → text_at w k (suc k) ≡ Some bytes
unfolding token_text token_kind text_at
text_shown w k bytes utf8 text kind = by (slice_get w.tokens k) refl text kind where
  by : (o : Option Token) → slice_get w.tokens k ≡ o → option_map_or (text_of w.bytes) o [] ≡ in_quotes bytes → option_map (λ t. t.kind) o ≡ Some Text → text_at w k (suc k) ≡ Some bytes
  by None found text kind = cc
  by (Some t) found text kind =
      let one : suc k - k ≡ 1 = omega arith in
      let alone = one_taken w.tokens k t found in
      let string : t.kind ≡ Text = cc in
      let value : text_value (text_of w.bytes t) ≡ bytes = ap text_value text ∙ (quoted_text bytes utf8).gives in
      rw (one, alone, string, value, append-nil, utf8) refl

word_positive : (x : List ℕ) → is_identifier x ≡ true → bytes_eq x (45 ∷ []) ≡ false
unfolding is_word_start
word_positive [] e = refl
word_positive (b ∷ bs) e =
    let both = and_true (is_word_start b) (list_all is_word bs) e in
    let other : (b == 45) ≡ false = grind (arith, nat_tests) in
    rw other refl

word_shown : (w : Written) (k : ℕ) (x : List ℕ) → is_identifier x ≡ true → token_text w k ≡ x → token_kind w k ≡ Some Identifier → ShowsWord w x k
unfolding member_at truth_at is_negative
word_shown w k x e text kind =
    let positive = word_positive x e in
    record {
      member = λ enum. rw (text, positive, kind, text) refl;
      truth = rw (kind, text) refl;
    }

not_minus : (b : ℕ) → is_digit b ≡ true → (b == 45) ≡ false
unfolding is_digit
not_minus b e = grind (arith, nat_tests)

decimal_positive : (n : ℕ) → n < 2 ^ 64 → bytes_eq (decimal n) (45 ∷ []) ≡ false
decimal_positive n h =
    let t = decimal_text n h in
    rw (t.is, not_minus t.first t.digit) refl

positive_shown : (w : Written) (k n : ℕ) → n < 2 ^ 64 → token_text w k ≡ decimal n → token_kind w k ≡ Some Decimal → ShowsNumber w (pos n) k
unfolding number_at is_negative size_at
positive_shown w k n h text kind =
    let positive = decimal_positive n h in
    let value = decimal_value-decimal n h in
    record {
      worth = rw (text, positive, kind, text, value) refl;
      kind = rw (text, positive) kind;
    }

negative_shown : (w : Written) (k n : ℕ) → suc n < 2 ^ 64 → token_text w k ≡ 45 ∷ [] → token_text w (suc k) ≡ decimal (suc n) → token_kind w (suc k) ≡ Some Decimal → ShowsNumber w (negsuc n) k
unfolding number_at is_negative size_at
negative_shown w k n h minus text kind =
    let value = decimal_value-decimal (suc n) h in
    record {
      worth = rw (minus, add-one, kind, text, value) refl;
      kind = rw (minus, add-one) kind;
    }

number_shown : (w : Written) (k : ℕ) (n : ℤ) (rest : List Piece) → IsShort n → AreWritten w k (number_pieces n rest) → ShowsNumber w n k × AreWritten w (past_scalar (scalar_of n) k) rest
number_shown w k (pos n) rest h s = (positive_shown w k n h s.0 s.1, s.2)
number_shown w k (negsuc n) rest h s = (negative_shown w k n h s.0 s.2.0 s.2.1, s.2.2)

others_shown : (w : Written) (k : ℕ) (ns : List ℤ) (rest : List Piece) → AreShort ns → AreWritten w k (others_pieces ns rest) → ShowNumbers w ns (others_at k (map scalar_of ns)) × AreWritten w (past_others (map scalar_of ns) k) rest
others_shown w k [] rest h s = (tt, s)
others_shown w k (n ∷ ns) rest h s =
    let here = number_shown w (suc k) n (others_pieces ns rest) h.0 s.2 in
    let others = others_shown w (past_scalar (scalar_of n) (suc k)) ns rest h.1 here.1 in
    ((here.0, others.0), others.1)

past_indent : (w : Written) (k level : ℕ) (ps : List Piece) → AreWritten w k (indent_pieces level ps) → AreWritten w k ps
past_indent w k zero ps s = s
past_indent w k (suc level) ps s = past_indent w k level ps s

pub tree_shows : (room : ℕ) (w : Written) (k level : ℕ) (m : PrintedMessage) (rest : List Piece) → IsPlain room m → AreWritten w k (pieces level m rest) → Shows w m (tree_at k (fields_of m)) × AreWritten w (past_fields (fields_of m) k) rest
tree_shows room w k level empty rest p s = (tt, s)
tree_shows room w k level (number name n more) rest p s =
    let line = past_indent w k level _ s in
    let here = number_shown w (suc (suc k)) n (blank 10 ∷ pieces level more rest) p.1 line.2.2 in
    let others = tree_shows room w (past_scalar (scalar_of n) (suc (suc k))) level more rest p.2 here.1 in
    ((line.0, (here.0, tt), others.0), others.1)
tree_shows room w k level (numbers name n ns more) rest p s =
    let line = past_indent w k level _ s in
    let last : List Piece = sign 93 ∷ blank 10 ∷ pieces level more rest in
    let here = number_shown w (suc (suc (suc k))) n (others_pieces ns last) p.1 line.2.2.2 in
    let items = others_shown w (past_scalar (scalar_of n) (suc (suc (suc k)))) ns last p.2 here.1 in
    let others = tree_shows room w (suc (past_others (map scalar_of ns) (past_scalar (scalar_of n) (suc (suc (suc k)))))) level more rest p.3 items.1.2 in
    ((line.0, (here.0, items.0), others.0), others.1)
tree_shows room w k level (word name x more) rest p s =
    let line = past_indent w k level _ s in
    let here = word_shown w (suc (suc k)) x p.1 line.2.2.0 line.2.2.1 in
    let others = tree_shows room w (suc (suc (suc k))) level more rest p.2 line.2.2.2 in
    ((line.0, here, others.0), others.1)
tree_shows room w k level (quoted name bytes more) rest p s =
    let line = past_indent w k level _ s in
    let here = text_shown w (suc (suc k)) bytes p.1 line.2.2.0 line.2.2.1 in
    let others = tree_shows room w (suc (suc (suc k))) level more rest p.2 line.2.2.2 in
    ((line.0, here, others.0), others.1)
tree_shows zero w k level (message name fields more) rest p s = absurd p
tree_shows (suc room) w k level (message name fields more) rest p s =
    let line = past_indent w k level _ s in
    let close : List Piece = sign 125 ∷ blank 10 ∷ pieces level more rest in
    let inner = tree_shows room w (suc (suc k)) (suc level) fields (indent_pieces level close) p.1 line.2.2 in
    let behind = past_indent w (past_fields (fields_of fields) (suc (suc k))) level close inner.1 in
    let others = tree_shows (suc room) w (suc (past_fields (fields_of fields) (suc (suc k)))) level more rest p.2 behind.2 in
    ((line.0, inner.0, others.0), others.1)

-- what is printed under a name

abbrev pub printed_numbers : List ℕ → PrintedMessage → List ℤ
printed_numbers name empty = []
printed_numbers name (number other n more) = (if bytes_eq other name then n ∷ [] else []) ++ printed_numbers name more
printed_numbers name (numbers other n ns more) = (if bytes_eq other name then n ∷ ns else []) ++ printed_numbers name more
printed_numbers name (word other w more) = printed_numbers name more
printed_numbers name (quoted other bytes more) = printed_numbers name more
printed_numbers name (message other inner more) = printed_numbers name more

abbrev pub printed_texts : List ℕ → PrintedMessage → List (List ℕ)
printed_texts name empty = []
printed_texts name (number other n more) = printed_texts name more
printed_texts name (numbers other n ns more) = printed_texts name more
printed_texts name (word other w more) = printed_texts name more
printed_texts name (quoted other bytes more) = (if bytes_eq other name then bytes ∷ [] else []) ++ printed_texts name more
printed_texts name (message other inner more) = printed_texts name more

-- the numbers of the members that are printed as words
abbrev pub printed_members : Enum → List ℕ → PrintedMessage → List ℕ
printed_members enum name empty = []
printed_members enum name (number other n more) = printed_members enum name more
printed_members enum name (numbers other n ns more) = printed_members enum name more
printed_members enum name (word other w more) =
    (if bytes_eq other name then ok_or_zero (member_named enum false w) ∷ [] else []) ++ printed_members enum name more
printed_members enum name (quoted other bytes more) = printed_members enum name more
printed_members enum name (message other inner more) = printed_members enum name more

-- the truth values that are printed as words
abbrev pub printed_truths : List ℕ → PrintedMessage → List Bool
printed_truths name empty = []
printed_truths name (number other n more) = printed_truths name more
printed_truths name (numbers other n ns more) = printed_truths name more
printed_truths name (word other w more) = (if bytes_eq other name then unwrap_or (truth_named w) false ∷ [] else []) ++ printed_truths name more
printed_truths name (quoted other bytes more) = printed_truths name more
printed_truths name (message other inner more) = printed_truths name more

-- a field of this name is printed
abbrev pub is_printed : List ℕ → PrintedMessage → Bool
is_printed name empty = false
is_printed name (number other n more) = bytes_eq other name || is_printed name more
is_printed name (numbers other n ns more) = bytes_eq other name || is_printed name more
is_printed name (word other w more) = bytes_eq other name || is_printed name more
is_printed name (quoted other bytes more) = bytes_eq other name || is_printed name more
is_printed name (message other inner more) = bytes_eq other name || is_printed name more

abbrev pub printed_messages : List ℕ → PrintedMessage → List PrintedMessage
printed_messages name empty = []
printed_messages name (number other n more) = printed_messages name more
printed_messages name (numbers other n ns more) = printed_messages name more
printed_messages name (word other w more) = printed_messages name more
printed_messages name (quoted other bytes more) = printed_messages name more
printed_messages name (message other inner more) = (if bytes_eq other name then inner ∷ [] else []) ++ printed_messages name more

value_numbers-shown : (w : Written) (ns : List ℤ) (values : Values) → ShowNumbers w ns values → value_numbers w values ≡ ns
value_numbers-shown w [] no_values s = refl
value_numbers-shown w [] (scalar_value first end rest) s = absurd s
value_numbers-shown w [] (message_value first tree rest) s = absurd s
value_numbers-shown w (n ∷ ns) no_values s = absurd s
value_numbers-shown w (n ∷ ns) (scalar_value first end rest) s = rw (s.0.worth, value_numbers-shown w ns rest s.1) refl
value_numbers-shown w (n ∷ ns) (message_value first tree rest) s = absurd s

pub value_messages-shown : (w : Written) (ns : List ℤ) (values : Values) → ShowNumbers w ns values → value_messages values ≡ []
value_messages-shown w [] no_values s = refl
value_messages-shown w [] (scalar_value first end rest) s = absurd s
value_messages-shown w [] (message_value first tree rest) s = absurd s
value_messages-shown w (n ∷ ns) no_values s = absurd s
value_messages-shown w (n ∷ ns) (scalar_value first end rest) s = value_messages-shown w ns rest s.1
value_messages-shown w (n ∷ ns) (message_value first tree rest) s = absurd s

same_choice : {X : Type 0} (b : Bool) (x : X) → (if b then x else x) ≡ x
same_choice true x = refl
same_choice false x = refl

zip_then : {X Y : Type 0} (R : X → Y → Type 0) (b : Bool) (x : X) (y : Y) (xs : List X) (ys : List Y) → R x y → AllZip R xs ys → AllZip R ((if b then x ∷ [] else []) ++ xs) ((if b then y ∷ [] else []) ++ ys)
zip_then R true x y xs ys r rs = (r, rs)
zip_then R false x y xs ys r rs = rs

pub messages-shown : (w : Written) (name : List ℕ) (m : PrintedMessage) (t : Tree) → Shows w m t → AllZip (Shows w) (printed_messages name m) (messages w name t)
messages-shown w name empty no_fields s = tt
messages-shown w name (number other n more) (field token false values rest) s =
    rw (value_messages-shown w (n ∷ []) values s.1, same_choice {X = List Tree} (bytes_eq (token_text w token) name) []) (messages-shown w name more rest s.2)
messages-shown w name (numbers other n ns more) (field token true values rest) s =
    rw (value_messages-shown w (n ∷ ns) values s.1, same_choice {X = List Tree} (bytes_eq (token_text w token) name) []) (messages-shown w name more rest s.2)
messages-shown w name (word other x more) (field token false (scalar_value first end no_values) rest) s =
    rw (same_choice {X = List Tree} (bytes_eq (token_text w token) name) []) (messages-shown w name more rest s.2)
messages-shown w name (quoted other bytes more) (field token false (scalar_value first end no_values) rest) s =
    rw (same_choice {X = List Tree} (bytes_eq (token_text w token) name) []) (messages-shown w name more rest s.2)
messages-shown w name (message other inner more) (field token false (message_value first tree no_values) rest) s =
    rw s.0 (zip_then (Shows w) (bytes_eq other name) inner tree (printed_messages name more) (messages w name rest) s.1 (messages-shown w name more rest s.2))
messages-shown w name _ _ s = absurd s

-- the tables admit what is printed

-- a field of this name may stand behind fields of those names
abbrev pub IsClear : List (List ℕ) → tables.Message → List (List ℕ) → List ℕ → Type 0
IsClear closed m before name = name_fault closed m before name (use_of m name) ≡ None

-- a field of this use may have a list
abbrev pub is_listed : Option Use → Bool
is_listed None = false
is_listed (Some (tables.single content)) = false
is_listed (Some (tables.repeated content)) = true
is_listed (Some (tables.closable content)) = true
is_listed (Some (tables.formed form content)) = true
is_listed (Some (tables.formed_single form content)) = false
is_listed (Some (tables.one_kind k)) = false
is_listed (Some tables.unsupported) = false

pub record TakesNumber (closed : List (List ℕ)) (m : tables.Message) (before : List (List ℕ)) (name : List ℕ) (n : ℤ) : Type 0 where
  pub type : Number
  pub content : content_of (use_of m name) ≡ Some (tables.number type)
  pub clear : IsClear closed m before name
  pub fit : fits type n ≡ true

pub record TakesNumbers (closed : List (List ℕ)) (m : tables.Message) (before : List (List ℕ)) (name : List ℕ) (ns : List ℤ) : Type 0 where
  pub type : Number
  pub content : content_of (use_of m name) ≡ Some (tables.number type)
  pub clear : IsClear closed m before name
  pub listed : is_listed (use_of m name) ≡ true
  pub fit : list_all (fits type) ns ≡ true

-- a word that is a value of this content: a member of the enum, or a truth value
abbrev pub IsWordOf : Content → List ℕ → Type 0
IsWordOf (tables.number type) w = ⊥
IsWordOf tables.truth w = (b : Bool) × (truth_named w ≡ Some b)
IsWordOf tables.text w = ⊥
IsWordOf (tables.member enum) w = (k : ℕ) × (member_named enum false w ≡ Ok k)
IsWordOf (tables.message m) w = ⊥

pub record TakesWord (closed : List (List ℕ)) (m : tables.Message) (before : List (List ℕ)) (name w : List ℕ) : Type 0 where
  pub value : Content
  pub content : content_of (use_of m name) ≡ Some value
  pub clear : IsClear closed m before name
  pub named : IsWordOf value w

pub record TakesText (closed : List (List ℕ)) (m : tables.Message) (before : List (List ℕ)) (name : List ℕ) : Type 0 where
  pub content : content_of (use_of m name) ≡ Some tables.text
  pub clear : IsClear closed m before name

pub record TakesMessage (closed : List (List ℕ)) (m : tables.Message) (before : List (List ℕ)) (name : List ℕ) (Admits : tables.Message → Type 0) : Type 0 where
  pub inner : tables.Message
  pub content : content_of (use_of m name) ≡ Some (tables.message inner)
  pub clear : IsClear closed m before name
  pub admits : Admits inner

abbrev pub IsAdmitted : List (List ℕ) → tables.Message → List (List ℕ) → PrintedMessage → Type 0
IsAdmitted closed m before empty = Unit {0}
IsAdmitted closed m before (number name n more) = TakesNumber closed m before name n × IsAdmitted closed m (name ∷ before) more
IsAdmitted closed m before (numbers name n ns more) = TakesNumbers closed m before name (n ∷ ns) × IsAdmitted closed m (name ∷ before) more
IsAdmitted closed m before (word name w more) = TakesWord closed m before name w × IsAdmitted closed m (name ∷ before) more
IsAdmitted closed m before (quoted name bytes more) = TakesText closed m before name × IsAdmitted closed m (name ∷ before) more
IsAdmitted closed m before (message name inner more) =
    TakesMessage closed m before name (λ k. IsAdmitted closed k [] inner) × IsAdmitted closed m (name ∷ before) more

-- a message where a name takes one, of each use

pub each : {closed : List (List ℕ)} {m : tables.Message} {before : List (List ℕ)} {name : List ℕ} {Admits : tables.Message → Type 0} (k : tables.Message) → use_of m name ≡ Some (tables.repeated (tables.message k)) → Admits k → TakesMessage closed m before name Admits
each k takes admits = record { inner = k; content = ap content_of takes; clear = rw takes refl; admits = admits }

pub formed : {closed : List (List ℕ)} {m : tables.Message} {before : List (List ℕ)} {name : List ℕ} {Admits : tables.Message → Type 0} (k : tables.Message) (form : Form) → use_of m name ≡ Some (tables.formed form (tables.message k)) → has_other_form m form before ≡ false → Admits k → TakesMessage closed m before name Admits
formed k form takes apart admits = record { inner = k; content = ap content_of takes; clear = rw (takes, apart) refl; admits = admits }

pub alone : {closed : List (List ℕ)} {m : tables.Message} {before : List (List ℕ)} {name : List ℕ} {Admits : tables.Message → Type 0} (k : tables.Message) → use_of m name ≡ Some (tables.single (tables.message k)) → is_given before name ≡ false → Admits k → TakesMessage closed m before name Admits
alone k takes once admits = record { inner = k; content = ap content_of takes; clear = rw (takes, once) refl; admits = admits }

pub alone_formed : {closed : List (List ℕ)} {m : tables.Message} {before : List (List ℕ)} {name : List ℕ} {Admits : tables.Message → Type 0} (k : tables.Message) (form : Form) → use_of m name ≡ Some (tables.formed_single form (tables.message k)) → is_given before name ≡ false → has_other_form m form before ≡ false → Admits k → TakesMessage closed m before name Admits
alone_formed k form takes once apart admits =
    record { inner = k; content = ap content_of takes; clear = rw (takes, once, apart) refl; admits = admits }

pub kind : {closed : List (List ℕ)} {m : tables.Message} {before : List (List ℕ)} {name : List ℕ} {Admits : tables.Message → Type 0} (k : tables.Message) → use_of m name ≡ Some (tables.one_kind k) → is_given closed name ≡ false → is_given before name ≡ false → has_kind m before ≡ false → Admits k → TakesMessage closed m before name Admits
kind k takes open_name once only admits =
    record { inner = k; content = ap content_of takes; clear = rw (takes, open_name, once, only) refl; admits = admits }

-- one value has no fault of a list, and a list none where it may stand

one_clear : (w : Written) (u : Option Use) (k : ℕ) → list_fault w u k true ≡ None
one_clear w None k = refl
one_clear w (Some (tables.single content)) k = refl
one_clear w (Some (tables.repeated content)) k = refl
one_clear w (Some (tables.closable content)) k = refl
one_clear w (Some (tables.formed form content)) k = refl
one_clear w (Some (tables.formed_single form content)) k = refl
one_clear w (Some (tables.one_kind m)) k = refl
one_clear w (Some tables.unsupported) k = refl

list_clear : (w : Written) (u : Option Use) (k : ℕ) (alone : Bool) → is_listed u ≡ true → list_fault w u k alone ≡ None
list_clear w None k alone e = refl
list_clear w (Some (tables.single content)) k alone e = cc
list_clear w (Some (tables.repeated content)) k alone e = refl
list_clear w (Some (tables.closable content)) k alone e = refl
list_clear w (Some (tables.formed form content)) k alone e = refl
list_clear w (Some (tables.formed_single form content)) k alone e = cc
list_clear w (Some (tables.one_kind m)) k alone e = cc
list_clear w (Some tables.unsupported) k alone e = refl

sized : (w : Written) (first : ℕ) → token_kind w (unsigned_token w first) ≡ Some Decimal → is_some (size_at w first) ≡ true
unfolding size_at
sized w first decimals = rw decimals refl

number_admitted : (w : Written) (type : Number) (n : ℤ) (first : ℕ) → ShowsNumber w n first → fits type n ≡ true → number_fault w type first ≡ None
unfolding number_fault
number_admitted w type n first s f = rw (s.kind, sized w first s.kind, s.worth, f) refl

numbers_admitted : (w : Written) (type : Number) (ns : List ℤ) (values : Values) → ShowNumbers w ns values → list_all (fits type) ns ≡ true → values_fault w (Some (tables.number type)) values ≡ None
numbers_admitted w type [] no_values s f = refl
numbers_admitted w type [] (scalar_value first end rest) s f = absurd s
numbers_admitted w type [] (message_value first tree rest) s f = absurd s
numbers_admitted w type (n ∷ ns) no_values s f = absurd s
numbers_admitted w type (n ∷ ns) (scalar_value first end rest) s f =
    let both = and_true (fits type n) (list_all (fits type) ns) f in
    rw (number_admitted w type n first s.0 both.0, numbers_admitted w type ns rest s.1 both.1) refl
numbers_admitted w type (n ∷ ns) (message_value first tree rest) s f = absurd s

word_admitted : (w : Written) (value : Content) (x : List ℕ) (first end : ℕ) → ShowsWord w x first → IsWordOf value x → values_fault w (Some value) (scalar_value first end no_values) ≡ None
word_admitted w (tables.number type) x first end s i = absurd i
word_admitted w tables.truth x first end s i = rw (s.truth, i.1) refl
word_admitted w tables.text x first end s i = absurd i
word_admitted w (tables.member enum) x first end s i = rw (s.member enum, i.1) refl
word_admitted w (tables.message m) x first end s i = absurd i

-- a field without a fault of its own leaves those of the fields behind it
field_passed : (w : Written) (m : tables.Message) (before : List (List ℕ)) (name : List ℕ) (token : ℕ) (list : Bool) (values : Values) (rest : Tree) → token_text w token ≡ name → IsClear w.closed m before name → list_fault w (use_of m name) token (is_alone list values) ≡ None → values_fault w (content_of (use_of m name)) values ≡ None → fields_fault w m (name ∷ before) rest ≡ None → fields_fault w m before (field token list values rest) ≡ None
field_passed w m before name token list values rest text clear lists inner others =
    let here : option_or (refused_at token (name_fault w.closed m before name (use_of m name))) (list_fault w (use_of m name) token (is_alone list values)) ≡ None = rw clear lists in
    let whole : option_or (option_or (refused_at token (name_fault w.closed m before name (use_of m name))) (list_fault w (use_of m name) token (is_alone list values))) (option_or (values_fault w (content_of (use_of m name)) values) (fields_fault w m (name ∷ before) rest)) ≡ None = rw (here, inner, others) refl in
    rw text whole

pub no_fault : (w : Written) (m : tables.Message) (before : List (List ℕ)) (p : PrintedMessage) (t : Tree) → Shows w p t → IsAdmitted w.closed m before p → fields_fault w m before t ≡ None
no_fault w m before empty no_fields s a = refl
no_fault w m before (number name n more) (field token false (scalar_value first end no_values) rest) s a =
    let here : values_fault w (content_of (use_of m name)) (scalar_value first end no_values) ≡ None = rw (a.0.content, number_admitted w a.0.type n first s.1.0 a.0.fit) refl in
    field_passed w m before name token false (scalar_value first end no_values) rest s.0 a.0.clear (one_clear w _ token) here (no_fault w m (name ∷ before) more rest s.2 a.1)
no_fault w m before (number name n more) (field token false no_values rest) s a = absurd s.1
no_fault w m before (number name n more) (field token false (scalar_value first end (scalar_value f e others)) rest) s a = absurd s.1.1
no_fault w m before (number name n more) (field token false (scalar_value first end (message_value f tree others)) rest) s a = absurd s.1.1
no_fault w m before (number name n more) (field token false (message_value first tree others) rest) s a = absurd s.1
no_fault w m before (numbers name n ns more) (field token true values rest) s a =
    let here : values_fault w (content_of (use_of m name)) values ≡ None = rw a.0.content (numbers_admitted w a.0.type (n ∷ ns) values s.1 a.0.fit) in
    field_passed w m before name token true values rest s.0 a.0.clear (list_clear w _ token (is_alone true values) a.0.listed) here (no_fault w m (name ∷ before) more rest s.2 a.1)
no_fault w m before (word name x more) (field token false (scalar_value first end no_values) rest) s a =
    let here : values_fault w (content_of (use_of m name)) (scalar_value first end no_values) ≡ None = rw a.0.content (word_admitted w a.0.value x first end s.1 a.0.named) in
    field_passed w m before name token false (scalar_value first end no_values) rest s.0 a.0.clear (one_clear w _ token) here (no_fault w m (name ∷ before) more rest s.2 a.1)
no_fault w m before (quoted name bytes more) (field token false (scalar_value first end no_values) rest) s a =
    let here : values_fault w (content_of (use_of m name)) (scalar_value first end no_values) ≡ None = rw (a.0.content, s.1) refl in
    field_passed w m before name token false (scalar_value first end no_values) rest s.0 a.0.clear (one_clear w _ token) here (no_fault w m (name ∷ before) more rest s.2 a.1)
no_fault w m before (message name inner more) (field token false (message_value first tree no_values) rest) s a =
    let fields = no_fault w a.0.inner [] inner tree s.1 a.0.admits in
    let here : values_fault w (content_of (use_of m name)) (message_value first tree no_values) ≡ None = rw (a.0.content, fields) refl in
    field_passed w m before name token false (message_value first tree no_values) rest s.0 a.0.clear (one_clear w _ token) here (no_fault w m (name ∷ before) more rest s.2 a.1)
no_fault w m before _ _ s a = absurd s

-- Where the tables admit a message, what is read under a name is what was printed there: no other field has the name.

pub content_clash : (m : tables.Message) (a b : List ℕ) (c d : Content) → content_of (use_of m a) ≡ Some c → content_of (use_of m b) ≡ Some d → c ≢ d → bytes_eq a b ≡ false
content_clash m a b c d ca cb other = by (bytes_eq a b) refl where
  by : (same : Bool) → bytes_eq a b ≡ same → same ≡ false
  by false e = refl
  by true e =
      let is : a ≡ b = (bytes_eq-Decides a b).0 e in
      let both : Some c ≡ Some d = sym ca ∙ (ap (λ n. content_of (use_of m n)) is ∙ cb) in
      absurd (other (cc))

number_no_text : (type : Number) → tables.number type ≢ tables.text
number_no_text type = λ e. cc

word_no_number : (value : Content) (x : List ℕ) (type : Number) → IsWordOf value x → value ≢ tables.number type
word_no_number (tables.number t) x type i = absurd i
word_no_number tables.truth x type i = λ e. cc
word_no_number tables.text x type i = absurd i
word_no_number (tables.member enum) x type i = λ e. cc
word_no_number (tables.message m) x type i = absurd i

word_no_text : (value : Content) (x : List ℕ) → IsWordOf value x → value ≢ tables.text
word_no_text (tables.number t) x i = absurd i
word_no_text tables.truth x i = λ e. cc
word_no_text tables.text x i = absurd i
word_no_text (tables.member enum) x i = λ e. cc
word_no_text (tables.message m) x i = absurd i

number_no_truth : (type : Number) → tables.number type ≢ tables.truth
number_no_truth type = λ e. cc

text_no_truth : tables.text ≢ tables.truth
text_no_truth = λ e. cc

number_no_member : (type : Number) (enum : Enum) → tables.number type ≢ tables.member enum
number_no_member type enum = λ e. cc

member_no_text : (enum : Enum) → tables.member enum ≢ tables.text
member_no_text enum = λ e. cc

pub numbers-shown : (w : Written) (m : tables.Message) (before : List (List ℕ)) (name : List ℕ) (type : Number) (p : PrintedMessage) (t : Tree) → content_of (use_of m name) ≡ Some (tables.number type) → IsAdmitted w.closed m before p → Shows w p t → readings.numbers w name t ≡ printed_numbers name p
numbers-shown w m before name type empty no_fields takes a s = refl
numbers-shown w m before name type (number other n more) (field token false values rest) takes a s =
    rw (s.0, value_numbers-shown w (n ∷ []) values s.1, numbers-shown w m (other ∷ before) name type more rest takes a.1 s.2) refl
numbers-shown w m before name type (numbers other n ns more) (field token true values rest) takes a s =
    rw (s.0, value_numbers-shown w (n ∷ ns) values s.1, numbers-shown w m (other ∷ before) name type more rest takes a.1 s.2) refl
numbers-shown w m before name type (word other x more) (field token false (scalar_value first end no_values) rest) takes a s =
    let apart = content_clash m other name _ _ a.0.content takes (word_no_number a.0.value x type a.0.named) in
    rw (s.0, apart) (numbers-shown w m (other ∷ before) name type more rest takes a.1 s.2)
numbers-shown w m before name type (quoted other bytes more) (field token false (scalar_value first end no_values) rest) takes a s =
    let apart = content_clash m other name _ _ a.0.content takes (λ e. number_no_text type (sym e)) in
    rw (s.0, apart) (numbers-shown w m (other ∷ before) name type more rest takes a.1 s.2)
numbers-shown w m before name type (message other inner more) (field token false (message_value first tree no_values) rest) takes a s =
    rw (same_choice {X = List ℤ} (bytes_eq (token_text w token) name) []) (numbers-shown w m (other ∷ before) name type more rest takes a.1 s.2)
numbers-shown w m before name type _ _ takes a s = absurd s

pub texts-shown : (w : Written) (m : tables.Message) (before : List (List ℕ)) (name : List ℕ) (p : PrintedMessage) (t : Tree) → content_of (use_of m name) ≡ Some tables.text → IsAdmitted w.closed m before p → Shows w p t → readings.texts w name t ≡ printed_texts name p
texts-shown w m before name empty no_fields takes a s = refl
texts-shown w m before name (number other n more) (field token false values rest) takes a s =
    let apart = content_clash m other name _ _ a.0.content takes (number_no_text a.0.type) in
    rw (s.0, apart) (texts-shown w m (other ∷ before) name more rest takes a.1 s.2)
texts-shown w m before name (numbers other n ns more) (field token true values rest) takes a s =
    let apart = content_clash m other name _ _ a.0.content takes (number_no_text a.0.type) in
    rw (s.0, apart) (texts-shown w m (other ∷ before) name more rest takes a.1 s.2)
texts-shown w m before name (word other x more) (field token false (scalar_value first end no_values) rest) takes a s =
    let apart = content_clash m other name _ _ a.0.content takes (word_no_text a.0.value x a.0.named) in
    rw (s.0, apart) (texts-shown w m (other ∷ before) name more rest takes a.1 s.2)
texts-shown w m before name (quoted other bytes more) (field token false (scalar_value first end no_values) rest) takes a s =
    rw (s.0, s.1, texts-shown w m (other ∷ before) name more rest takes a.1 s.2) refl
texts-shown w m before name (message other inner more) (field token false (message_value first tree no_values) rest) takes a s =
    rw (same_choice {X = List (List ℕ)} (bytes_eq (token_text w token) name) []) (texts-shown w m (other ∷ before) name more rest takes a.1 s.2)
texts-shown w m before name _ _ takes a s = absurd s

pub members-shown : (w : Written) (m : tables.Message) (before : List (List ℕ)) (enum : Enum) (name : List ℕ) (p : PrintedMessage) (t : Tree) → content_of (use_of m name) ≡ Some (tables.member enum) → IsAdmitted w.closed m before p → Shows w p t → readings.members w enum name t ≡ printed_members enum name p
members-shown w m before enum name empty no_fields takes a s = refl
members-shown w m before enum name (number other n more) (field token false values rest) takes a s =
    let apart = content_clash m other name _ _ a.0.content takes (number_no_member a.0.type enum) in
    rw (s.0, apart) (members-shown w m (other ∷ before) enum name more rest takes a.1 s.2)
members-shown w m before enum name (numbers other n ns more) (field token true values rest) takes a s =
    let apart = content_clash m other name _ _ a.0.content takes (number_no_member a.0.type enum) in
    rw (s.0, apart) (members-shown w m (other ∷ before) enum name more rest takes a.1 s.2)
members-shown w m before enum name (word other x more) (field token false (scalar_value first end no_values) rest) takes a s =
    rw (s.0, s.1.member enum, members-shown w m (other ∷ before) enum name more rest takes a.1 s.2) refl
members-shown w m before enum name (quoted other bytes more) (field token false (scalar_value first end no_values) rest) takes a s =
    let apart = content_clash m other name _ _ a.0.content takes (λ e. member_no_text enum (sym e)) in
    rw (s.0, apart) (members-shown w m (other ∷ before) enum name more rest takes a.1 s.2)
members-shown w m before enum name (message other inner more) (field token false (message_value first tree no_values) rest) takes a s =
    rw (same_choice {X = List ℕ} (bytes_eq (token_text w token) name) []) (members-shown w m (other ∷ before) enum name more rest takes a.1 s.2)
members-shown w m before enum name _ _ takes a s = absurd s

pub truths-shown : (w : Written) (m : tables.Message) (before : List (List ℕ)) (name : List ℕ) (p : PrintedMessage) (t : Tree) → content_of (use_of m name) ≡ Some tables.truth → IsAdmitted w.closed m before p → Shows w p t → readings.truths w name t ≡ printed_truths name p
truths-shown w m before name empty no_fields takes a s = refl
truths-shown w m before name (number other n more) (field token false values rest) takes a s =
    let apart = content_clash m other name _ _ a.0.content takes (number_no_truth a.0.type) in
    rw (s.0, apart) (truths-shown w m (other ∷ before) name more rest takes a.1 s.2)
truths-shown w m before name (numbers other n ns more) (field token true values rest) takes a s =
    let apart = content_clash m other name _ _ a.0.content takes (number_no_truth a.0.type) in
    rw (s.0, apart) (truths-shown w m (other ∷ before) name more rest takes a.1 s.2)
truths-shown w m before name (word other x more) (field token false (scalar_value first end no_values) rest) takes a s =
    rw (s.0, s.1.truth, truths-shown w m (other ∷ before) name more rest takes a.1 s.2) refl
truths-shown w m before name (quoted other bytes more) (field token false (scalar_value first end no_values) rest) takes a s =
    let apart = content_clash m other name _ _ a.0.content takes text_no_truth in
    rw (s.0, apart) (truths-shown w m (other ∷ before) name more rest takes a.1 s.2)
truths-shown w m before name (message other inner more) (field token false (message_value first tree no_values) rest) takes a s =
    rw (same_choice {X = List Bool} (bytes_eq (token_text w token) name) []) (truths-shown w m (other ∷ before) name more rest takes a.1 s.2)
truths-shown w m before name _ _ takes a s = absurd s

pub gives-shown : (w : Written) (name : List ℕ) (p : PrintedMessage) (t : Tree) → Shows w p t → readings.gives w name t ≡ is_printed name p
gives-shown w name empty no_fields s = refl
gives-shown w name (number other n more) (field token false values rest) s = rw (s.0, gives-shown w name more rest s.2) refl
gives-shown w name (numbers other n ns more) (field token true values rest) s = rw (s.0, gives-shown w name more rest s.2) refl
gives-shown w name (word other x more) (field token false (scalar_value first end no_values) rest) s = rw (s.0, gives-shown w name more rest s.2) refl
gives-shown w name (quoted other bytes more) (field token false (scalar_value first end no_values) rest) s = rw (s.0, gives-shown w name more rest s.2) refl
gives-shown w name (message other inner more) (field token false (message_value first tree no_values) rest) s = rw (s.0, gives-shown w name more rest s.2) refl
gives-shown w name _ _ s = absurd s

-- A text cut into pieces, and when they are the tokens that are read.
use Rattle.std.specs.Prelude.{MatchOption, slice_index, slice_get}
use Rattle.std.proofs.lemmas.List.{drop-drop}
use Rattle.std.proofs.Common.{◌≡◌, ℕ, zero, suc, ◌+◌, ◌-◌, ◌<◌, ◌≤◌, true, false, ◌==◌, List, [], ◌∷◌, ◌++◌, length, take, drop, get_or, length-append, length-drop, Option, Some, refl, sym, subst, ap, ◌∙◌, arith}
use Rattle.cps_lex.specs.declared.types.Token.{Token}
use Rattle.cps_lex.specs.declared.types.TokenKind.{TokenKind}
use Rattle.cps_lex.specs.Bytes.{is_space}
use Rattle.cps_lex.specs.Tokens.{past_blank, blank_length, IsTokenAt, IsLongest, NoneStands, ReadsTokens, AreTokens}
use Rattle.cps_lex.specs.Scan.{scan}
use Rattle.cps_lex.proofs.Standing.{scan_finds}
use Rattle.cps_textproto.specs.declared.symbol.Symbol.{Symbol}
use Rattle.cps_textproto.specs.Symbols.{symbol_of_kind, symbols}
use Rattle.cps_schema.specs.Written.{Written, token_text, token_kind, written_with}

pub data Piece : Type 0 where
  blank : ℕ → Piece
  lexeme : TokenKind → List ℕ → Piece

abbrev pub spelled : List Piece → List ℕ
spelled [] = []
spelled (blank b ∷ ps) = b ∷ spelled ps
spelled (lexeme kind text ∷ ps) = text ++ spelled ps

-- the tokens of pieces that begin at a place
abbrev pub tokens_at : ℕ → List Piece → List Token
tokens_at at [] = []
tokens_at at (blank b ∷ ps) = tokens_at (at + 1) ps
tokens_at at (lexeme kind text ∷ ps) =
    record { kind = kind; start = at; end = at + length text } ∷ tokens_at (at + length text) ps

abbrev pub first_byte : List ℕ → ℕ
first_byte [] = 0
first_byte (b ∷ bs) = b

abbrev pub symbols_of : List Piece → List Symbol
symbols_of [] = []
symbols_of (blank b ∷ ps) = symbols_of ps
symbols_of (lexeme kind text ∷ ps) = symbol_of_kind kind (first_byte text) ∷ symbols_of ps

pub record IsBlank (b : ℕ) : Type 0 where
  pub space : is_space b ≡ true
  pub no_comment : (b == 35) ≡ false

-- the lexeme is what is cut off in front of what follows
pub record IsLexeme (kind : TokenKind) (text after : List ℕ) : Type 0 where
  pub some : 0 < length text
  pub scans : scan (text ++ after) ≡ Some (kind, length text)
  pub starts : blank_length false (text ++ after) ≡ 0

abbrev pub AreSound : List Piece → Type 0
AreSound [] = Unit {0}
AreSound (blank b ∷ ps) = IsBlank b × AreSound ps
AreSound (lexeme kind text ∷ ps) = IsLexeme kind text (spelled ps) × AreSound ps

-- what is left behind the front of a list

pub drop-front : {X : Type 0} (text rest : List X) → drop (length text) (text ++ rest) ≡ rest
drop-front [] rest = refl
drop-front (b ∷ text) rest = drop-front text rest

pub take-front : {X : Type 0} (text rest : List X) → take (length text) (text ++ rest) ≡ text
take-front [] rest = refl
take-front (b ∷ text) rest = ap (λ xs. b ∷ xs) (take-front text rest)

record Rests (bytes : List ℕ) (at : ℕ) (rest : List ℕ) : Type 0 where
  within : at ≤ length bytes
  is : drop at bytes ≡ rest

behind : (bytes : List ℕ) (at : ℕ) (text rest : List ℕ) → Rests bytes at (text ++ rest) → Rests bytes (at + length text) rest
behind bytes at text rest r =
    let long : length (drop at bytes) ≡ length text + length rest = rw r.is (length-append text rest) in
    let left : length bytes - at ≡ length text + length rest = sym (length-drop at bytes) ∙ long in
    let within = r.within in
    record {
      within = omega arith;
      is = sym (drop-drop (length text) at bytes) ∙ (ap (λ xs. drop (length text) xs) r.is ∙ drop-front text rest);
    }

-- the tokens of the pieces are those of the text

longest_of : (rest : List ℕ) (kind : TokenKind) (n : ℕ) → scan rest ≡ Some (kind, n) → IsLongest rest kind n
longest_of rest kind n e =
    subst (λ (o : Option (TokenKind × ℕ)). MatchOption o (NoneStands rest) (λ t. IsLongest rest t.0 t.1)) e (scan_finds rest)

same_start : (bytes : List ℕ) (a b to : ℕ) (ts : List Token) → past_blank bytes a ≡ past_blank bytes b → ReadsTokens bytes b ts to → ReadsTokens bytes a ts to
same_start bytes a b to [] e l = e ∙ l
same_start bytes a b to (t ∷ ts) e l = (subst (λ p. IsTokenAt bytes p t) (sym e) l.0, l.1)

blank_passed : (b : ℕ) (rest : List ℕ) → IsBlank b → blank_length false (b ∷ rest) ≡ 1 + blank_length false rest
blank_passed b rest s = rw (s.no_comment, s.space) refl

token_at : (bytes : List ℕ) (at : ℕ) (kind : TokenKind) (text after : List ℕ) → drop at bytes ≡ text ++ after → IsLexeme kind text after → IsTokenAt bytes (past_blank bytes at) (record { kind = kind; start = at; end = at + length text })
token_at bytes at kind text after e s =
    let past : past_blank bytes at ≡ at = rw (e, s.starts) (omega arith) in
    let size : length text ≡ (at + length text) - at = omega arith in
    let long : IsLongest (drop at bytes) kind (length text) = subst (λ xs. IsLongest xs kind (length text)) (sym e) (longest_of (text ++ after) kind (length text) s.scans) in
    record {
      start = sym past;
      order = omega arith;
      longest = subst (λ n. IsLongest (drop at bytes) kind n) size long;
    }

leads : (bytes : List ℕ) (at : ℕ) (ps : List Piece) → Rests bytes at (spelled ps) → AreSound ps → ReadsTokens bytes at (tokens_at at ps) (length bytes)
leads bytes at [] r s =
    let none : length bytes - at ≡ 0 = sym (length-drop at bytes) ∙ ap length r.is in
    let within = r.within in
    let end : at + 0 ≡ length bytes = omega arith in
    rw r.is end
leads bytes at (blank b ∷ ps) r s =
    let next = behind bytes at (b ∷ []) (spelled ps) r in
    let here : past_blank bytes at ≡ at + (1 + blank_length false (spelled ps)) = rw (r.is, blank_passed b (spelled ps) s.0) refl in
    let there : past_blank bytes (at + 1) ≡ (at + 1) + blank_length false (spelled ps) = rw next.is refl in
    let same : past_blank bytes at ≡ past_blank bytes (at + 1) = here ∙ (omega arith ∙ sym there) in
    same_start bytes at (at + 1) (length bytes) (tokens_at (at + 1) ps) same (leads bytes (at + 1) ps next s.1)
leads bytes at (lexeme kind text ∷ ps) r s =
    (token_at bytes at kind text (spelled ps) r.is s.0, leads bytes (at + length text) ps (behind bytes at text (spelled ps) r) s.1)

whole : (bytes : List ℕ) → Rests bytes 0 bytes
whole bytes = record { within = omega arith; is = refl }

pub tokens_are : (ps : List Piece) → AreSound ps → AreTokens (spelled ps) (tokens_at 0 ps)
tokens_are ps s = leads (spelled ps) 0 ps (whole (spelled ps)) s

-- and so are their symbols

first_at : (bytes : List ℕ) (at b : ℕ) (rest : List ℕ) → drop at bytes ≡ b ∷ rest → get_or bytes at 0 ≡ b
first_at [] zero b rest e = cc
first_at [] (suc at) b rest e = cc
first_at (x ∷ bytes) zero b rest e = cc
first_at (x ∷ bytes) (suc at) b rest e = first_at bytes at b rest e

byte_at : (bytes : List ℕ) (at : ℕ) (text rest : List ℕ) → 0 < length text → drop at bytes ≡ text ++ rest → get_or bytes at 0 ≡ first_byte text
byte_at bytes at [] rest some e = absurd (omega arith)
byte_at bytes at (b ∷ text) rest some e = first_at bytes at b (text ++ rest) e

symbols_from : (bytes : List ℕ) (at : ℕ) (ps : List Piece) → Rests bytes at (spelled ps) → AreSound ps → symbols bytes (tokens_at at ps) ≡ symbols_of ps
symbols_from bytes at [] r s = refl
symbols_from bytes at (blank b ∷ ps) r s = symbols_from bytes (at + 1) ps (behind bytes at (b ∷ []) (spelled ps) r) s.1
symbols_from bytes at (lexeme kind text ∷ ps) r s =
    let first : slice_index bytes at ≡ first_byte text = byte_at bytes at text (spelled ps) s.0.some r.is in
    let others = symbols_from bytes (at + length text) ps (behind bytes at text (spelled ps) r) s.1 in
    rw (first, others) refl

pub symbols_are : (ps : List Piece) → AreSound ps → symbols (spelled ps) (tokens_at 0 ps) ≡ symbols_of ps
symbols_are ps s = symbols_from (spelled ps) 0 ps (whole (spelled ps)) s

-- what is written on the tokens from this one on
abbrev pub AreWritten : Written → ℕ → List Piece → Type 0
AreWritten w k [] = Unit {0}
AreWritten w k (blank b ∷ ps) = AreWritten w k ps
AreWritten w k (lexeme kind text ∷ ps) = (token_text w k ≡ text) × (token_kind w k ≡ Some kind) × AreWritten w (suc k) ps

item_at : {X : Type 0} (xs : List X) (k : ℕ) (x : X) (rest : List X) → drop k xs ≡ x ∷ rest → slice_get xs k ≡ Some x
item_at [] zero x rest e = cc
item_at [] (suc k) x rest e = cc
item_at (y ∷ xs) zero x rest e = cc
item_at (y ∷ xs) (suc k) x rest e = item_at xs k x rest e

items_behind : {X : Type 0} (xs : List X) (k : ℕ) (x : X) (rest : List X) → drop k xs ≡ x ∷ rest → drop (suc k) xs ≡ rest
items_behind [] zero x rest e = cc
items_behind [] (suc k) x rest e = cc
items_behind (y ∷ xs) zero x rest e = cc
items_behind (y ∷ xs) (suc k) x rest e = items_behind xs k x rest e

kind_at : (w : Written) (k : ℕ) (t : Token) → slice_get w.tokens k ≡ Some t → token_kind w k ≡ Some t.kind
unfolding token_kind
kind_at w k t e = rw e refl

text_at : (w : Written) (k at : ℕ) (kind : TokenKind) (text rest : List ℕ) → slice_get w.tokens k ≡ Some (record { kind = kind; start = at; end = at + length text }) → drop at w.bytes ≡ text ++ rest → token_text w k ≡ text
unfolding token_text
text_at w k at kind text rest e d =
    let size : (at + length text) - at ≡ length text = omega arith in
    rw (e, size, d) (take-front text rest)

written_from : (w : Written) (k at : ℕ) (ps : List Piece) → drop k w.tokens ≡ tokens_at at ps → Rests w.bytes at (spelled ps) → AreWritten w k ps
written_from w k at [] e r = tt
written_from w k at (blank b ∷ ps) e r = written_from w k (at + 1) ps e (behind w.bytes at (b ∷ []) (spelled ps) r)
written_from w k at (lexeme kind text ∷ ps) e r =
    let token : Token = record { kind = kind; start = at; end = at + length text } in
    let here = item_at w.tokens k token (tokens_at (at + length text) ps) e in
    let next = items_behind w.tokens k token (tokens_at (at + length text) ps) e in
    (text_at w k at kind text (spelled ps) here r.is, kind_at w k token here, written_from w (suc k) (at + length text) ps next (behind w.bytes at text (spelled ps) r))

pub written_are : (closed : List (List ℕ)) (ps : List Piece) → AreWritten (written_with closed (spelled ps) (tokens_at 0 ps)) 0 ps
written_are closed ps = written_from (written_with closed (spelled ps) (tokens_at 0 ps)) 0 0 ps refl (whole (spelled ps))

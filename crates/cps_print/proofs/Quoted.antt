-- A text in quotes is one string, which is read as the text.
use Rattle.std.specs.List.{flat_map}
use Rattle.std.specs.Str.{is_utf8, chars}
use Rattle.std.proofs.lemmas.Str.{IsUtf8-from_is_utf8, encodes-chars, scalars-chars}
use Rattle.std.proofs.lemmas.Bool.Decides.{nat_tests}
use Rattle.std.proofs.Common.{◌≡◌, ℕ, ◌+◌, ◌*◌, ◌/◌, ◌%◌, ◌<◌, ◌≤◌, Bool, true, false, cond, ◌&&◌, eqb, leb, ltb, List, [], ◌∷◌, ◌++◌, codes, Some, refl, subst, arith}
use lib.Utf8.{scalar, scalars, encode, encodes}
use Rattle.cps_lex.specs.declared.types.TokenKind.TheVariants.{Text}
use Rattle.cps_lex.specs.Bytes.{is_quote, is_space, is_octal_digit, hex_value}
use Rattle.cps_lex.specs.Escapes.{simple_escape}
use Rattle.cps_lex.proofs.Denoting.{Denotes, nothing_denotes, joined_denote, IsString, quoted_string, byte_denotes, simple_denotes, octal_denotes}
use Rattle.cps_lex.proofs.Standing.{text_scans}
use Rattle.cps_print.specs.Quoting.{octal, escaped, in_quotes}
use Rattle.cps_print.proofs.Digits.{and_true}
use Rattle.cps_print.proofs.Pieces.{IsLexeme}

abbrev pub AreBytes : List ℕ → Type 0
AreBytes [] = Unit {0}
AreBytes (b ∷ bytes) = (b < 256) × AreBytes bytes

-- UTF-8 is made of bytes

bytes_append : (xs ys : List ℕ) → AreBytes xs → AreBytes ys → AreBytes (xs ++ ys)
bytes_append [] ys p q = q
bytes_append (x ∷ xs) ys p q = (p.0, bytes_append xs ys p.1 q)

encode_bytes : (c : ℕ) → scalar c ≡ true → AreBytes (encode c)
unfolding encode
encode_bytes c e = by (ltb c 128) (ltb c 2048) (ltb c 65536) refl refl refl where
  by : (a b d : Bool) → ltb c 128 ≡ a → ltb c 2048 ≡ b → ltb c 65536 ≡ d → AreBytes (cond a (c ∷ []) (cond b ((192 + c / 64) ∷ (128 + c % 64) ∷ []) (cond d ((224 + c / 4096) ∷ (128 + c / 64 % 64) ∷ (128 + c % 64) ∷ []) ((240 + c / 262144) ∷ (128 + c / 4096 % 64) ∷ (128 + c / 64 % 64) ∷ (128 + c % 64) ∷ []))))
  by true b d ea eb ed = (grind (arith, nat_tests), tt)
  by false true d ea eb ed =
      let small : c < 2048 = grind (arith, nat_tests) in
      (omega arith, (omega arith, tt))
  by false false true ea eb ed =
      let small : c < 65536 = grind (arith, nat_tests) in
      (omega arith, (omega arith, (omega arith, tt)))
  by false false false ea eb ed =
      let small : c < 1114112 = grind (arith, nat_tests) in
      (omega arith, (omega arith, (omega arith, (omega arith, tt))))

encodes_bytes : (cs : List ℕ) → scalars cs ≡ true → AreBytes (encodes cs)
encodes_bytes [] e = tt
encodes_bytes (c ∷ cs) e =
    let both = and_true (scalar c) (scalars cs) e in
    bytes_append (encode c) (encodes cs) (encode_bytes c both.0) (encodes_bytes cs both.1)

pub utf8_bytes : (bytes : List ℕ) → is_utf8 bytes ≡ true → AreBytes bytes
utf8_bytes bytes e =
    let utf8 = IsUtf8-from_is_utf8 bytes e in
    subst AreBytes (encodes-chars bytes utf8) (encodes_bytes (chars bytes) (scalars-chars bytes utf8))

-- what is written of a byte denotes it

quotes : is_quote 34 ≡ true
unfolding is_quote
quotes = refl

by_sign : (b sign value : ℕ) → simple_escape sign ≡ Some value → eqb b value ≡ true → Denotes 34 (92 ∷ sign ∷ []) (b ∷ [])
by_sign b sign value e is =
    let same : value ≡ b = grind (arith, nat_tests) in
    subst (λ v. Denotes 34 (92 ∷ sign ∷ []) (v ∷ [])) same (simple_denotes 34 sign value quotes e)

octal_digit : (n : ℕ) → n < 8 → is_octal_digit (48 + n) ≡ true
unfolding is_octal_digit
octal_digit n h = grind (arith, nat_tests)

octal_value : (n : ℕ) → n < 8 → hex_value (48 + n) ≡ n
unfolding hex_value
octal_value n h = grind (arith, nat_tests)

octal_byte : (b : ℕ) → b < 256 → Denotes 34 (octal b) (b ∷ [])
octal_byte b h =
    let first : b / 64 < 8 = omega arith in
    let second : b / 8 % 8 < 8 = omega arith in
    let third : b % 8 < 8 = omega arith in
    let whole : 8 * (8 * hex_value (48 + b / 64) + hex_value (48 + b / 8 % 8)) + hex_value (48 + b % 8) ≡ b =
    rw (octal_value (b / 64) first, octal_value (b / 8 % 8) second, octal_value (b % 8) third) (omega arith) in
    let fits : 8 * (8 * hex_value (48 + b / 64) + hex_value (48 + b / 8 % 8)) + hex_value (48 + b % 8) ≤ 255 = rw whole (omega (arith, h)) in
    subst (λ v. Denotes 34 (octal b) (v ∷ [])) whole
    (octal_denotes 34 (48 + b / 64) (48 + b / 8 % 8) (48 + b % 8) quotes (octal_digit (b / 64) first) (octal_digit (b / 8 % 8) second) (octal_digit (b % 8) third) fits)

escaped_byte : (b : ℕ) → b < 256 → Denotes 34 (escaped b) (b ∷ [])
unfolding escaped simple_escape
escaped_byte b h = by (eqb b 10) (eqb b 13) (eqb b 9) (eqb b 34) (eqb b 39) (eqb b 92) (leb 32 b && leb b 126) refl refl refl refl refl refl where
  by : (line return tab quote tick slash shown : Bool) → eqb b 10 ≡ line → eqb b 13 ≡ return → eqb b 9 ≡ tab → eqb b 34 ≡ quote → eqb b 39 ≡ tick → eqb b 92 ≡ slash → Denotes 34 (cond line (codes "\\n") (cond return (codes "\\r") (cond tab (codes "\\t") (cond quote (codes "\\\"") (cond tick (codes "\\'") (cond slash (codes "\\\\") (cond shown (b ∷ []) (octal b)))))))) (b ∷ [])
  by true return tab quote tick slash shown el er et eq ek es = by_sign b 110 10 refl el
  by false true tab quote tick slash shown el er et eq ek es = by_sign b 114 13 refl er
  by false false true quote tick slash shown el er et eq ek es = by_sign b 116 9 refl et
  by false false false true tick slash shown el er et eq ek es = by_sign b 34 34 refl eq
  by false false false false true slash shown el er et eq ek es = by_sign b 39 39 refl ek
  by false false false false false true shown el er et eq ek es = by_sign b 92 92 refl es
  by false false false false false false true el er et eq ek es = byte_denotes 34 b eq es el
  by false false false false false false false el er et eq ek es = octal_byte b h

escaped_bytes : (bytes : List ℕ) → AreBytes bytes → Denotes 34 (flat_map escaped bytes) bytes
escaped_bytes [] h = nothing_denotes 34
escaped_bytes (b ∷ bytes) h =
    joined_denote 34 (escaped b) (b ∷ []) (flat_map escaped bytes) bytes (escaped_byte b h.0) (escaped_bytes bytes h.1)

pub quoted_text : (bytes : List ℕ) → is_utf8 bytes ≡ true → IsString (in_quotes bytes) bytes
unfolding in_quotes
quoted_text bytes e = quoted_string 34 (flat_map escaped bytes) bytes quotes (escaped_bytes bytes (utf8_bytes bytes e))

-- it is cut off whole, whatever follows
pub text_lexeme : (bytes after : List ℕ) → is_utf8 bytes ≡ true → IsLexeme Text (in_quotes bytes) after
unfolding in_quotes is_space
text_lexeme bytes after e = record {
  some = omega arith;
  scans = text_scans (in_quotes bytes) after (quoted_text bytes e).form;
  starts = refl;
}

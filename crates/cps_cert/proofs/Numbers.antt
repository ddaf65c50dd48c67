-- A number that is written is read.
use Rattle.std.specs.Prelude.{Ok, Result, ◌^◌, FitsSigned}
use Rattle.std.specs.Fmt.{decimal, signed_decimal}
use Rattle.std.specs.Str.{IsUtf8}
use Rattle.std.specs.Str.Parse.{ParsesSigned, ParsesUnsigned}
use Rattle.std.proofs.Common.{subst, true, false, ◌≡◌, ℕ, ◌<◌, List, ◌∙◌, arith, ℤ, pos, negsuc}
use Rattle.std.proofs.lemmas.Fmt.{IsAscii-signed, IsAscii-decimal, parse-signed_decimal, parse-decimal}
use Rattle.std.proofs.lemmas.Str.{IsUtf8-from_ascii}
use Rattle.std.proofs.lemmas.Int.{ints}
use lib.Signed.{mag, le_z}
use mir.Syntax.{w64, w32}
use Rattle.cps_log.specs.Subjects.{IsNear}
use Rattle.cps_log.specs.Fitting.{FitsVariable}
use Rattle.cps_subjects.proofs.Near.{near_mag, near_fits}

pub text_of_number : (word : List ℕ) (z : ℤ) → IsNear z → word ≡ signed_decimal z → IsUtf8 word
text_of_number word z h e = rw e (IsUtf8-from_ascii (signed_decimal z) (IsAscii-signed z (near_mag z h)))

pub text_of_natural : (word : List ℕ) (n : ℕ) → n < 2 ^ 32 → word ≡ decimal n → IsUtf8 word
text_of_natural word n h e = rw e (IsUtf8-from_ascii (decimal n) (IsAscii-decimal n (omega arith)))

pub number_read : {E : Type 0} (word text : List ℕ) (z : ℤ) (r : Result ℤ E) → IsNear z → word ≡ signed_decimal z → text ≡ word → ParsesSigned w64 10 text r → r ≡ Ok z
number_read word text z r h e same p = parse-signed_decimal w64 z text r (near_fits z h) (near_mag z h) (same ∙ e) p

pub natural_read : {E : Type 0} (word text : List ℕ) (n : ℕ) (r : Result ℕ E) → n < 2 ^ 32 → word ≡ decimal n → text ≡ word → ParsesUnsigned 32 10 text r → r ≡ Ok n
natural_read word text n r h e same p = parse-decimal 32 n text r h (omega arith) (same ∙ e) p

pub variable_near : (r : ℤ) → FitsVariable r → IsNear r
variable_near (pos n) h = omega arith
variable_near (negsuc n) h = elim h [ ]

variable_mag : (r : ℤ) → FitsVariable r → mag r < 2 ^ 31
variable_mag (pos n) h = h
variable_mag (negsuc n) h = elim h [ ]

pub variable_fits : (r : ℤ) → FitsVariable r → FitsSigned w32 r
variable_fits r h = record { sfits = variable_mag r h }

pub variable_read : {E : Type 0} (word text : List ℕ) (r : ℤ) (found : Result ℤ E) → FitsVariable r → word ≡ signed_decimal r → text ≡ word → ParsesSigned w32 10 text found → found ≡ Ok r
variable_read word text r found h e same p = parse-signed_decimal w32 r text found (variable_fits r h) (near_mag r (variable_near r h)) (same ∙ e) p

at_least_zero : (n : ℕ) → le_z (pos 0) (pos n) ≡ true
at_least_zero n = grind (arith, ints)

pub not_negative : (z r : ℤ) → FitsVariable r → z ≡ r → le_z (pos 0) z ≡ false → ⊥
not_negative z (pos n) h same below = let holds = at_least_zero n in let fails : le_z (pos 0) (pos n) ≡ false = subst (λ (x : ℤ). le_z (pos 0) x ≡ false) same below in cc
not_negative z (negsuc n) h same below = elim h [ ]

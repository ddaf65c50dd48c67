-- Numbers are equal where their words are.
use mir.Syntax.{Width}
use Rattle.std.specs.Prelude.{nat_eq}
use Rattle.std.proofs.Common.{◌≡◌, ℤ, true, to_z, of_z, FitsSigned, sym, ap, ◌∙◌}
use Rattle.std.proofs.lemmas.Int.{to_z-of_z}
use Rattle.std.proofs.lemmas.Bool.{eqb-true, eq-eqb}

-- numbers whose words are equal
pub one_word : (w : Width) (x y : ℤ) → FitsSigned w x → FitsSigned w y → of_z w x ≡ of_z w y → x ≡ y
one_word w x y fx fy e = sym (to_z-of_z w x fx) ∙ ap (to_z w) e ∙ to_z-of_z w y fy

pub same_words : (w : Width) (x y : ℤ) → FitsSigned w x → FitsSigned w y → nat_eq (of_z w x) (of_z w y) ≡ true → x ≡ y
same_words w x y fx fy e = one_word w x y fx fy (eqb-true (of_z w x) (of_z w y) e)

-- the words of equal numbers
pub words_same : (w : Width) (x y : ℤ) → x ≡ y → nat_eq (of_z w x) (of_z w y) ≡ true
words_same w x y e = eq-eqb (of_z w x) (of_z w y) (ap (of_z w) e)

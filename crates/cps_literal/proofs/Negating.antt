-- The opposite of a comparison, with the number that the code computes for it.
use Rattle.std.proofs.Common.{ℤ, pos, negsuc, ◌+ℤ◌, ◌-ℤ◌, ◌≤ℤ◌, ◌<ℤ◌, ◌-◌, ◌^◌, ◌≡◌, not, sym, ◌∙◌, ap, subst, arith, w64, FitsSigned}
use Rattle.std.specs.Prelude.{int_le}
use Rattle.std.proofs.lemmas.Int.{ints, by_lt_z, to_z-of_z, fits_signed_from_abs}
use Rattle.cps_domain.proofs.Taking.{bits}
use Rattle.cps_literal.specs.Truth.{meets}
use Rattle.cps_literal.specs.declared.atom.Op.{Op}
use Rattle.cps_literal.specs.declared.atom.Op.TheVariants.{Le, Ge}
use Rattle.cps_literal.proofs.Implying.{le_yes, le_no}

-- an atom's number, its limits, and the number itself
pub record IsNumber (x y : ℤ) : Type 0 where
  pub is : x ≡ y
  pub low : negsuc (2 ^ 62 - 1) ≤ℤ x
  pub high : x ≤ℤ pos (2 ^ 62)

as_number : (y : ℤ) → negsuc (2 ^ 62 - 1) ≤ℤ y → y ≤ℤ pos (2 ^ 62) → IsNumber (bits y) y
as_number y l h =
    let e = to_z-of_z w64 y (fits_signed_from_abs w64 y (omega (arith, ints))) in
    record { is = e; low = subst (λ z. negsuc (2 ^ 62 - 1) ≤ℤ z) (sym e) l; high = subst (λ z. z ≤ℤ pos (2 ^ 62)) (sym e) h }

-- one more and one less
pub one_more_fits : (v : ℤ) → negsuc (2 ^ 62 - 1) ≤ℤ v → v <ℤ pos (2 ^ 62) → FitsSigned w64 (bits v +ℤ pos 1)
one_more_fits v l h = let e = (as_number v l (omega (arith, ints))).is in fits_signed_from_abs w64 (bits v +ℤ pos 1) (omega (arith, ints, e))

pub one_more : (v : ℤ) → negsuc (2 ^ 62 - 1) ≤ℤ v → v <ℤ pos (2 ^ 62) → IsNumber (bits (bits v +ℤ pos 1)) (v +ℤ pos 1)
one_more v l h =
    subst (λ z. IsNumber (bits (z +ℤ pos 1)) (v +ℤ pos 1)) (sym (as_number v l (omega (arith, ints))).is) (as_number (v +ℤ pos 1) (omega (arith, ints)) (omega (arith, ints)))

pub one_less_fits : (v : ℤ) → negsuc (2 ^ 62 - 1) <ℤ v → v ≤ℤ pos (2 ^ 62) → FitsSigned w64 (bits v -ℤ pos 1)
one_less_fits v l h = let e = (as_number v (omega (arith, ints)) h).is in fits_signed_from_abs w64 (bits v -ℤ pos 1) (omega (arith, ints, e))

pub one_less : (v : ℤ) → negsuc (2 ^ 62 - 1) <ℤ v → v ≤ℤ pos (2 ^ 62) → IsNumber (bits (bits v -ℤ pos 1)) (v -ℤ pos 1)
one_less v l h =
    subst (λ z. IsNumber (bits (z -ℤ pos 1)) (v -ℤ pos 1)) (sym (as_number v (omega (arith, ints)) h).is) (as_number (v -ℤ pos 1) (omega (arith, ints)) (omega (arith, ints)))

-- at least one more is not at most, and at most one less is not at least
from_above : (v x : ℤ) → int_le (v +ℤ pos 1) x ≡ not (int_le x v)
from_above v x = by_lt_z v x
    (λ l. le_yes (v +ℤ pos 1) x (omega (arith, ints)) ∙ sym (ap not (le_no x v l)))
    (λ l. le_no (v +ℤ pos 1) x (omega (arith, ints)) ∙ sym (ap not (le_yes x v l)))

from_below : (v x : ℤ) → int_le x (v -ℤ pos 1) ≡ not (int_le v x)
from_below v x = by_lt_z x v
    (λ l. le_yes x (v -ℤ pos 1) (omega (arith, ints)) ∙ sym (ap not (le_no v x l)))
    (λ l. le_no x (v -ℤ pos 1) (omega (arith, ints)) ∙ sym (ap not (le_yes v x l)))

pub le_negated : (o : Op) (v w x : ℤ) → o ≡ Le → w ≡ v +ℤ pos 1 → int_le w x ≡ not (meets o v x)
le_negated o v w x i e = ap (λ z. int_le z x) e ∙ from_above v x ∙ ap (λ p. not (meets p v x)) (sym i)

pub ge_negated : (o : Op) (v w x : ℤ) → o ≡ Ge → w ≡ v -ℤ pos 1 → int_le x w ≡ not (meets o v x)
ge_negated o v w x i e = ap (λ z. int_le x z) e ∙ from_below v x ∙ ap (λ p. not (meets p v x)) (sym i)

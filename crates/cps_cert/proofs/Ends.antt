-- A sum lies between its ends over a box wherever its variables lie in the box.
use Rattle.std.specs.Prelude.{◌*ℤ◌, ◌+ℤ◌}
use Rattle.std.specs.List.{list_all}
use Rattle.std.proofs.Common.{◌≡◌, ℕ, List, [], ◌∷◌, length, Bool, true, false, refl, arith, ℤ, pos, negsuc, ◌≤ℤ◌}
use Rattle.std.proofs.lemmas.Int.{ints}
use Rattle.cps_model.specs.declared.model.LinearExpr.{LinearExpr}
use Rattle.cps_model.specs.Values.{variable_of, variable_value, reference_value, sum_of}
use Rattle.cps_model.specs.Rules.{names}
use Rattle.cps_model.proofs.Tests.{and_true}
use Rattle.cps_validate.specs.Signs.{with_sign_of}
use Rattle.cps_unit.specs.Boxes.{Box}
use Rattle.cps_log.specs.Boxes.{HasEnds, IsSumOutside}
use Rattle.cps_cert.proofs.Literals.{Lies, variable_left}

reference_is : (a : List ℤ) (r : ℤ) → reference_value a r ≡ with_sign_of r (variable_value a (variable_of r))
reference_is a (pos i) = refl
reference_is a (negsuc i) = refl

-- a number from the one end to the other
pub record Between (low x high : ℤ) : Type 0 where
  pub low_is : low ≤ℤ x
  pub high_is : x ≤ℤ high

add_between : (l x h l' y h' low high : ℤ) → l ≤ℤ x → x ≤ℤ h → Between l' y h' → low ≡ l +ℤ l' → high ≡ h +ℤ h' → Between low (x +ℤ y) high
add_between l x h l' y h' low high p q b e f =
    let low_is = b.low_is in
    let high_is = b.high_is in
    record { low_is = rw e (omega (arith, ints)); high_is = rw f (omega (arith, ints)) }

pub sum_between : (box : Box) (sums : List LinearExpr) (a : List ℤ) (count : ℕ) → Lies box sums a count → (vars coeffs : List ℤ) (low high : ℤ) → list_all (names (length a)) vars ≡ true → HasEnds box vars coeffs low high → Between low (sum_of a vars coeffs) high
sum_between box sums a count lies [] cs low high n e = record { low_is = rw e.0 (omega (arith, ints)); high_is = rw e.1 (omega (arith, ints)) }
sum_between box sums a count lies (r ∷ rs) [] low high n e = record { low_is = rw e.0 (omega (arith, ints)); high_is = rw e.1 (omega (arith, ints)) }
sum_between box sums a count lies (r ∷ rs) (c ∷ cs) low high n e =
    let both = and_true (names (length a) r) (list_all (names (length a)) rs) n in
    let value = variable_value a (variable_of r) in
    let here = variable_left box sums a count r lies both.0 in
    let spans = e.4 in
    let rest = sum_between box sums a count lies rs cs e.2 e.3 both.1 e.5 in
    rw (reference_is a r) (add_between e.0 (c *ℤ with_sign_of r value) e.1 e.2 (sum_of a rs cs) e.3 low high (spans.above value here) (spans.below value here) rest e.6 e.7)

pub sum_outside : (box : Box) (sums : List LinearExpr) (a : List ℤ) (count : ℕ) (vars coeffs : List ℤ) (admits : ℤ → Bool) → Lies box sums a count → list_all (names (length a)) vars ≡ true → IsSumOutside box vars coeffs admits → admits (sum_of a vars coeffs) ≡ false
sum_outside box sums a count vars coeffs admits lies n s =
    let b = sum_between box sums a count lies vars coeffs s.low s.high n s.ends in
    s.none (sum_of a vars coeffs) b.low_is b.high_is

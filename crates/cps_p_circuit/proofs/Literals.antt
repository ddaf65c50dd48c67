-- The atoms that say of a literal, whose number is 0 or 1, that it holds or does not.
use lib.Signed.{lt_z}
use mir.Syntax.{w64}
use mir.Val.{to_z, of_z}
use Rattle.std.specs.Prelude.{not, FitsSigned}
use Rattle.std.proofs.Common.{◌≡◌, ◌<◌, ℤ, pos, negsuc, ◌≤ℤ◌, true, false, List, length, get_or, sym, ◌∙◌, ap, arith}
use Rattle.std.proofs.lemmas.Int.{ints, to_z-of_z}
use Rattle.std.proofs.lemmas.List.{get_or_default}
use Rattle.cps_literal.specs.declared.atom.Atom.{Atom}
use Rattle.cps_literal.specs.Truth.{meets}
use Rattle.cps_trail.specs.Trail.{IsInside}
use Rattle.cps_p_circuit.specs.declared.clash.Sign.{Sign}
use Rattle.cps_p_circuit.specs.Showing.{IsAtomOf}
use Rattle.cps_p_circuit.proofs.ShownFacts.{met_by, opposite_met}

-- what tests of a number say
at_least : (v w : ℤ) → lt_z v w ≡ false → w ≤ℤ v
at_least v w e = grind (arith, ints)

read_least : (v w : ℤ) → FitsSigned w64 v → lt_z (to_z w64 (of_z w64 v)) w ≡ false → w ≤ℤ v
read_least v w fits e = at_least v w (rw (to_z-of_z w64 v fits) at e)

read_most : (v w : ℤ) → FitsSigned w64 v → lt_z w (to_z w64 (of_z w64 v)) ≡ false → v ≤ℤ w
read_most v w fits e = at_least w v (rw (to_z-of_z w64 v fits) at e)

-- a number near 0 is one that a domain may have
near_inside : (v : ℤ) → negsuc 1 ≤ℤ v → v ≤ℤ pos 2 → IsInside v
near_inside v l h = record { low = omega (arith, ints); high = omega (arith, ints) }

-- a literal, where it shall hold, and its opposite, where it shall not
pub itself : (literals : List Atom) (p : Sign) (d : Atom) → p.arc < length literals → FitsSigned w64 (get_or literals p.arc d).value → lt_z (to_z w64 (of_z w64 (get_or literals p.arc d).value)) (pos 0) ≡ false → lt_z (pos 1) (to_z w64 (of_z w64 (get_or literals p.arc d).value)) ≡ false → p.holds ≡ true → IsAtomOf literals p (get_or literals p.arc d)
itself literals p d l fits low high holds = record {
  within = l;
  subject = λ e. ap (λ (u : Atom). u.subject) (get_or_default literals p.arc d e l);
  inside =
      let v = (get_or literals p.arc d).value in
      let least = read_least v (pos 0) fits low in
      let most = read_most v (pos 1) fits high in
      near_inside v (omega (arith, ints)) (omega (arith, ints));
  gives = met_by literals p d (get_or literals p.arc d) l (λ xs t. t ∙ sym holds);
}

pub opposite : (literals : List Atom) (p : Sign) (d u : Atom) → p.arc < length literals → FitsSigned w64 u.value → lt_z (to_z w64 (of_z w64 u.value)) (negsuc 1) ≡ false → lt_z (pos 2) (to_z w64 (of_z w64 u.value)) ≡ false → p.holds ≡ false → u.subject ≡ (get_or literals p.arc d).subject → ((x : ℤ) → meets u.op u.value x ≡ not (meets (get_or literals p.arc d).op (get_or literals p.arc d).value x)) → IsAtomOf literals p u
opposite literals p d u l fits low high holds same negated = record {
  within = l;
  subject = λ e. same ∙ ap (λ (a : Atom). a.subject) (get_or_default literals p.arc d e l);
  inside = near_inside u.value (read_least u.value (negsuc 1) fits low) (read_most u.value (pos 2) fits high);
  gives = met_by literals p d u l (opposite_met (get_or literals p.arc d) u p.holds holds same negated);
}

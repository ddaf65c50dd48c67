-- What facts by which positions have values in an interval explain.
use Rattle.std.specs.Prelude.{Contains, None, Some, Result, Ok, Err, Bool, IsTrue, not}
use Rattle.std.specs.declared.alloc.AllocError.{AllocError}
use Rattle.std.proofs.Common.{ℕ, ◌+◌, ◌<◌, ◌==◌, ◌≡◌, inl, inr, true, false, List, length, get_or, sym, ap, subst, rules, arith}
use Rattle.std.proofs.lemmas.Grind.{common_steps}
use Rattle.std.proofs.lemmas.List.Elements.{Contains-get_or}
use Rattle.cps_literal.specs.declared.atom.Atom.{Atom}
use Rattle.cps_literal.specs.Truth.{value_at, atom_holds}
use Rattle.cps_instance.specs.declared.task.Body.TheVariants.{AllDiff}
use Rattle.cps_trail.specs.Trail.{Trail}
use Rattle.cps_rule.specs.Rules.{IsExplained, IsRefuted}
use Rattle.cps_p_alldiff.specs.declared.interval.Interval.{Interval}
use Rattle.cps_p_alldiff.specs.Intervals.{lies_in, numbers, AreEnds}
use Rattle.cps_p_alldiff.specs.Facts.{is_other, AreHolding, IsNear}
use Rattle.cps_p_alldiff.proofs.IntervalCounts.{bool_cases, pigeonhole, both_fewer, one_more}
use Rattle.cps_p_alldiff.proofs.Bodies.{apart}

itself : (i : ℕ) → is_other (Some i) i ≡ false
itself i = let e : (i == i) ≡ true = first_of (search rules, grind (arith, common_steps)) in ap not e

-- the atom, where other positions fill the interval and its subject is not in it but where the atom is true
pub explained : (s : Trail) (is : List ℕ) (h : Interval) (t : Atom) (k n : ℕ) (others facts : List Atom) → AreEnds h → n ≡ numbers h → k < length is → get_or is k 0 ≡ t.subject → AreHolding s is (Some t.subject) h n others
    → IsNear s t h others facts → IsExplained (AllDiff is) s t facts
explained s is h t k n others facts ends count l at-k holding near = record {
  facts = near.facts holding.facts;
  speaks = near.about is (subst (λ (i : ℕ). Contains is i) at-k (Contains-get_or is k 0 l)) holding.speaks;
  gives = λ xs within all body. elim (bool_cases (atom_holds xs t)) [
    | inl yes' ↦ yes'
    | inr no' ↦
        let held = holding.held xs (near.kept xs all) in
        let here : lies_in h (value_at xs (get_or is k 0)) ≡ true = subst (λ (i : ℕ). lies_in h (value_at xs i) ≡ true) (sym at-k) (near.near xs all no') in
        let more = one_more (is_other (Some t.subject)) (λ i. lies_in h (value_at xs i)) is k 0 l (subst (λ (i : ℕ). is_other (Some t.subject) i ≡ false) (sym at-k) (itself t.subject)) here in
        let most = pigeonhole (λ (i : ℕ). value_at xs i) h is ends.ordered (apart xs is body) in
        absurd (omega arith)
  ];
}

-- no values, where more positions than it has numbers are in an interval
pub refuted : (s : Trail) (is : List ℕ) (h : Interval) (n : ℕ) (facts : List Atom) → AreEnds h → n ≡ numbers h + 1 → AreHolding s is None h n facts → IsRefuted (AllDiff is) s facts
refuted s is h n facts ends count holding = record {
  facts = holding.facts;
  speaks = holding.speaks;
  excludes = λ xs within all body.
      let held = holding.held xs all in
      let fewer = both_fewer (is_other None) (λ i. lies_in h (value_at xs i)) is in
      let most = pigeonhole (λ (i : ℕ). value_at xs i) h is ends.ordered (apart xs is body) in
      absurd (omega arith);
}

value_of : Result Bool AllocError → Bool
value_of (Ok b) = b
value_of (Err e) = false

-- an answer that was given as true
pub is_yes : (b : Bool) → ◌≡◌ {A = Result Bool AllocError} (Ok b) (Ok true) → IsTrue b
unfolding value_of
is_yes b e = ap value_of e

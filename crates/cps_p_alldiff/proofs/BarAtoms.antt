-- Atoms that keep a subject out of an interval, and the bounds beside which they do.
use Rattle.std.specs.Prelude.{int_le, not, Contains}
use Rattle.std.proofs.Common.{ℕ, ℤ, pos, ◌+ℤ◌, ◌≤ℤ◌, ◌<◌, ◌≡◌, length, Bool, true, false, List, [], ◌∷◌, ◌++◌, refl, sym, subst, arith}
use Rattle.std.proofs.lemmas.Int.{ints}
use Rattle.cps_domain.specs.Window.{equals}
use Rattle.cps_domain.proofs.Tests.{true_le, false_le}
use Rattle.cps_literal.specs.declared.atom.Atom.{Atom}
use Rattle.cps_literal.specs.declared.atom.Op.{Op}
use Rattle.cps_literal.specs.declared.atom.Op.TheVariants.{Le, Ge, Ne}
use Rattle.cps_literal.specs.Truth.{meets, value_at}
use Rattle.cps_trail.specs.Trail.{Trail, IsTrueNow}
use Rattle.cps_propagate.proofs.Speaking.{speaks_push}
use Rattle.cps_p_alldiff.specs.declared.interval.Interval.{Interval}
use Rattle.cps_p_alldiff.specs.Intervals.{IsInRange}
use Rattle.cps_p_alldiff.specs.Bars.{IsBar}
use Rattle.cps_p_alldiff.specs.Facts.{IsNearBound, IsNear}
use Rattle.cps_p_alldiff.proofs.IntervalCounts.{lies, equals_is}
use Rattle.cps_p_alldiff.proofs.FactPositions.{at_least, at_most, facts_push, all_before, last_true}

abbrev pub other : ℕ → ℤ → Atom
other i v = record { subject = i; op = Ne; value = v }

turned : (b : Bool) → not b ≡ false → b ≡ true
turned true e = refl
turned false e = sym e

-- the three bars
module _ (i : ℕ) (e h : Interval) (v : ℤ) where
  pub bar_low : h.low ≤ℤ e.low → v ≡ h.high +ℤ pos 1 → IsBar i e h (at_least i v)
  bar_low in' is-v = record {
    subject = refl;
    bars = λ x a b no'. let q = false_le v x no' in lies h x (omega (arith, ints)) (omega (arith, ints));
  }

  pub bar_high : e.high ≤ℤ h.high → (v +ℤ pos 1) ≡ h.low → IsBar i e h (at_most i v)
  bar_high in' is-v = record {
    subject = refl;
    bars = λ x a b no'. let q = false_le x v no' in lies h x (omega (arith, ints)) (omega (arith, ints));
  }

  pub bar_one : h.low ≡ h.high → v ≡ h.low → IsBar i e h (other i v)
  bar_one one is-v = record {
    subject = refl;
    bars = λ x a b no'. let same = equals_is x v (turned (equals x v) no') in lies h x (omega (arith, ints)) (omega (arith, ints));
  }

-- the two bounds
module _ (t : Atom) (h : Interval) (range : IsInRange h) where
  pub bound_low : t.op ≡ Ge → t.value ≤ℤ (h.high +ℤ pos 1) → IsNearBound t h (at_least t.subject h.low)
  bound_low is-ge in' = record {
    subject = refl;
    inside = range.low;
    bounds = λ x yes' no'.
        let no-ge : int_le t.value x ≡ false = subst (λ (o : Op). meets o t.value x ≡ false) is-ge no' in
        let p = true_le h.low x yes' in
        let q = false_le t.value x no-ge in
        lies h x (omega (arith, ints)) (omega (arith, ints));
  }

  pub bound_high : t.op ≡ Le → h.low ≤ℤ (t.value +ℤ pos 1) → IsNearBound t h (at_most t.subject h.high)
  bound_high is-le in' = record {
    subject = refl;
    inside = range.high;
    bounds = λ x yes' no'.
        let no-le : int_le x t.value ≡ false = subst (λ (o : Op). meets o t.value x ≡ false) is-le no' in
        let p = true_le x h.high yes' in
        let q = false_le x t.value no-le in
        lies h x (omega (arith, ints)) (omega (arith, ints));
  }

-- facts by which an atom is near
pub near_by : (s : Trail) (t near : Atom) (h : Interval) (old new : List Atom) → IsNearBound t h near → IsTrueNow s near → near.subject < length s.first → new ≡ old ++ near ∷ [] → IsNear s t h old new
near_by s t near h old new bound now inside pushed = subst (λ (us : List Atom). IsNear s t h old us) (sym pushed) (record {
  facts = λ f. facts_push s old near f (record { subject = inside; inside = bound.inside; true_now = now });
  kept = λ xs all. all_before xs old near all;
  about = λ is mine before. speaks_push is old near before (subst (λ (i : ℕ). Contains is i) (sym bound.subject) mine);
  near = λ xs all no'.
      let met : meets near.op near.value (value_at xs t.subject) ≡ true = subst (λ (i : ℕ). meets near.op near.value (value_at xs i) ≡ true) bound.subject (last_true xs old near all) in
      bound.bounds (value_at xs t.subject) met no';
})

pub near_itself : (s : Trail) (t : Atom) (h : Interval) (old new : List Atom) → t.op ≡ Ne → h.low ≤ℤ t.value → t.value ≤ℤ h.high → new ≡ old → IsNear s t h old new
near_itself s t h old new is-ne a b same = subst (λ (us : List Atom). IsNear s t h old us) (sym same) (record {
  facts = λ f. f;
  kept = λ xs all. all;
  about = λ is mine before. before;
  near = λ xs all no'.
      let v = value_at xs t.subject in
      let e = equals_is v t.value (turned (equals v t.value) (subst (λ (o : Op). meets o t.value v ≡ false) is-ne no')) in
      lies h v (omega (arith, ints)) (omega (arith, ints));
})

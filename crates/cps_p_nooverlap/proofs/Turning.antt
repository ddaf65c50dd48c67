-- Time in both directions.
use Rattle.std.specs.Prelude.{int_le}
use Rattle.std.proofs.Common.{◌≡◌, ◌≢◌, ◌<◌, ◌≤ℤ◌, ◌<ℤ◌, ◌+ℤ◌, ◌-ℤ◌, ◌⊎◌, inl, inr, ℕ, ℤ, pos, Bool, true, false, List, length, get_or, refl, arith}
use Rattle.std.proofs.lemmas.Int.{ints}
use Rattle.cps_domain.proofs.Tests.{true_le, false_le}
use Rattle.cps_literal.specs.declared.atom.Atom.{Atom}
use Rattle.cps_instance.specs.declared.task.Span.{Span}
use Rattle.cps_instance.specs.Parts.{span_runs}
use Rattle.cps_model.specs.Scheduling.{IsNoOverlap}
use Rattle.cps_p_span.specs.Spans.{start_at, end_at, is_present, SaysOfTimes}
use Rattle.cps_p_nooverlap.specs.Crowds.{near_at, far_at, LastsAt}
use Rattle.cps_p_span.proofs.Pairing.{pair_apart}

test : (b : Bool) → (b ≡ true) ⊎ (b ≡ false)
test true = inl refl
test false = inr refl

pub le_or : (x y : ℤ) → (x ≤ℤ y) ⊎ (y <ℤ x)
le_or x y = elim (test (int_le x y)) [ inl e ↦ inl (true_le x y e) | inr e ↦ inr (false_le x y e) ]

-- a bound of an end, with time reversed
pub near_from : (p : Span) (u : Atom) (t v : ℤ) → v ≡ pos 0 -ℤ t → SaysOfTimes p u (λ xs. end_at xs p ≤ℤ v) → SaysOfTimes p u (λ xs. t ≤ℤ near_at true xs p)
near_from p u t v e h = record {
  place = h.place;
  says = λ xs a. (let k = h.says xs a in omega (arith, ints));
  said = λ xs a. h.said xs (omega (arith, ints));
}

pub near_up_to : (p : Span) (u : Atom) (t v : ℤ) → v ≡ pos 0 -ℤ t → SaysOfTimes p u (λ xs. v ≤ℤ end_at xs p) → SaysOfTimes p u (λ xs. near_at true xs p ≤ℤ t)
near_up_to p u t v e h = record {
  place = h.place;
  says = λ xs a. (let k = h.says xs a in omega (arith, ints));
  said = λ xs a. h.said xs (omega (arith, ints));
}

pub far_from : (p : Span) (u : Atom) (t v : ℤ) → v ≡ pos 0 -ℤ t → SaysOfTimes p u (λ xs. start_at xs p ≤ℤ v) → SaysOfTimes p u (λ xs. t ≤ℤ far_at true xs p)
far_from p u t v e h = record {
  place = h.place;
  says = λ xs a. (let k = h.says xs a in omega (arith, ints));
  said = λ xs a. h.said xs (omega (arith, ints));
}

pub far_up_to : (p : Span) (u : Atom) (t v : ℤ) → v ≡ pos 0 -ℤ t → SaysOfTimes p u (λ xs. v ≤ℤ start_at xs p) → SaysOfTimes p u (λ xs. far_at true xs p ≤ℤ t)
far_up_to p u t v e h = record {
  place = h.place;
  says = λ xs a. (let k = h.says xs a in omega (arith, ints));
  said = λ xs a. h.said xs (omega (arith, ints));
}

-- two present spans are apart in each direction
pub turned_apart : (r : Bool) (xs : List ℤ) (ps : List Span) (i j : ℕ) (d : Span) → i ≢ j → i < length ps → j < length ps → is_present xs (get_or ps i d) ≡ true → is_present xs (get_or ps j d) ≡ true → IsNoOverlap (span_runs xs ps)
    → (far_at r xs (get_or ps i d) ≤ℤ near_at r xs (get_or ps j d)) ⊎ (far_at r xs (get_or ps j d) ≤ℤ near_at r xs (get_or ps i d))
turned_apart false xs ps i j d n l m e f h = pair_apart xs ps i j d n l m e f h
turned_apart true xs ps i j d n l m e f h = elim (pair_apart xs ps i j d n l m e f h) [ inl o ↦ inr (omega (arith, ints)) | inr o ↦ inl (omega (arith, ints)) ]

pub lasts_turned : (r : Bool) (xs : List ℤ) (p : Span) (w : ℕ) → LastsAt xs p w → (near_at r xs p +ℤ pos w) ≤ℤ far_at r xs p
lasts_turned false xs p w h = h
lasts_turned true xs p w h = omega (arith, ints)

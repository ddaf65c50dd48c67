-- Which spans may precede others, by what was seen of them.
use Rattle.std.specs.Prelude.{IsTrue}
use Rattle.std.specs.List.{AllZip}
use Rattle.std.proofs.Common.{◌≡◌, ℕ, ◌<◌, ◌≤ℤ◌, ◌⊎◌, inl, inr, Bool, true, false, List, length, get_or, refl}
use Rattle.cps_instance.specs.declared.task.Span.{Span}
use Rattle.cps_trail.specs.Trail.{Trail}
use Rattle.cps_propagate.specs.Strength.{MayPrecede, MayBeOrdered, IsPresentAt, HasOrders}
use Rattle.cps_p_span.specs.declared.seen.Seen.{Seen}
use Rattle.cps_p_span.specs.Spans.{IsSpanSeen, AreAllowed, no_seen}
use Rattle.cps_p_span.proofs.Timing.{zip_at}
use Rattle.cps_p_span.proofs.Pairing.{less_or}

pub turned_order : (s : Trail) (p q : Span) → MayBeOrdered s p q → MayBeOrdered s q p
turned_order s p q (inl h) = inr h
turned_order s p q (inr h) = inl h

module _ (s : Trail) (ps : List Span) (vs : List Seen) (seen : AllZip (IsSpanSeen s) ps vs) where
  seen_at : (k : ℕ) (d : Span) → k < length ps → IsSpanSeen s (get_or ps k d) (get_or vs k no_seen)
  seen_at k d l = zip_at (IsSpanSeen s) ps vs k d no_seen seen l

  pub may_precede : (i j : ℕ) (d : Span) → i < length ps → j < length ps → (get_or vs i no_seen).times.end_low ≤ℤ (get_or vs j no_seen).times.start_high → MayPrecede s (get_or ps i d) (get_or ps j d)
  may_precede i j d l m h = record {
    end = (get_or vs i no_seen).times.end_low;
    start = (get_or vs j no_seen).times.start_high;
    may_end = (seen_at i d l).times.end_first;
    may_start = (seen_at j d m).times.start_last;
    order = h;
  }

  -- one of two ends no later than the other starts, at the earliest and at the latest
  pub may_be_ordered : (i j : ℕ) (d : Span) → i < length ps → j < length ps
      → ((get_or vs i no_seen).times.end_low ≤ℤ (get_or vs j no_seen).times.start_high) ⊎ ((get_or vs j no_seen).times.end_low ≤ℤ (get_or vs i no_seen).times.start_high) → MayBeOrdered s (get_or ps i d) (get_or ps j d)
  may_be_ordered i j d l m (inl h) = inl (may_precede i j d l m h)
  may_be_ordered i j d l m (inr h) = inr (may_precede j i d m l h)

  pub sure_at : (k : ℕ) (d : Span) → IsPresentAt s ps k d → IsTrue (get_or vs k no_seen).presence.sure
  sure_at k d h = by_test (get_or vs k no_seen).presence.sure refl
    where
      by_test : (b : Bool) → (get_or vs k no_seen).presence.sure ≡ b → (get_or vs k no_seen).presence.sure ≡ true
      by_test true e = e
      by_test false e = absurd ((seen_at k d h.within).presence.unsure e h.present)

  ordered_at : AreAllowed vs (length ps) → (i j : ℕ) (d : Span) → i < j → IsPresentAt s ps i d → IsPresentAt s ps j d → MayBeOrdered s (get_or ps j d) (get_or ps i d)
  ordered_at allowed i j d l a b = may_be_ordered j i d b.within a.within (allowed i j l b.within (sure_at j d b) (sure_at i d a))

  pub has_orders : AreAllowed vs (length ps) → HasOrders s ps
  has_orders allowed = record {
    ordered = λ i j d differ a b. elim (less_or i j differ) [
      | inl l ↦ turned_order s (get_or ps j d) (get_or ps i d) (ordered_at allowed i j d l a b)
      | inr l ↦ ordered_at allowed j i d l b a
    ];
  }

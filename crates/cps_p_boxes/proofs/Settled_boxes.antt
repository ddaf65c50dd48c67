-- What rest leaves of two boxes: where each target is true, they are in order in a direction across which they overlap.
use Rattle.std.proofs.Common.{◌≡◌, ◌≤ℤ◌, ◌+◌, ℕ, inl, inr, List, length, get_or, subst, sym, arith}
use Rattle.std.proofs.lemmas.Int.{ints}
use Rattle.cps_rule.specs.declared.rule.Narrowing.{Narrowing}
use Rattle.cps_p_span.specs.declared.pairs.Pair.{Pair}
use Rattle.cps_p_span.specs.declared.seen.Seen.{Seen}
use Rattle.cps_p_span.specs.Spans.{IsPair, SettlesOrder, pair_of_places, no_seen}
use Rattle.cps_p_boxes.specs.declared.pairs.Direction.{Direction}
use Rattle.cps_p_boxes.specs.Boxes.{IsLate, IsOpenOrder, Overlap, MayBeApart, Settles, IsSettledAlong, AreBoxesSettled, AreFirstSettled, AreAllSettled}
use Rattle.cps_p_span.proofs.Pairing.{below_or_same}
use Rattle.cps_p_span.proofs.Settling.{settled_open, settled_forth, settled_back}

pub not_both : {P : Type 0} (vs : List Seen) (pair : Pair) → Overlap vs pair → MayBeApart vs pair → P
not_both vs pair o (inl q) = let f = o.forth in absurd (omega (arith, ints))
not_both vs pair o (inr q) = let f = o.back in absurd (omega (arith, ints))

module _ (v w : Direction) (pair : Pair) (p : IsPair (length v.spans) pair) (old new : List Narrowing) where
  -- the second box cannot come first
  pub along_forth : MayBeApart v.seen.items pair → IsLate v.seen.items pair → SettlesOrder v.spans v.seen.items pair old new → Settles v w (IsSettledAlong v w pair) old new
  along_forth apart late h = λ s is has all.
      let r = h s is all in
      let forth : (get_or v.seen.items pair.before no_seen).times.end_low ≤ℤ (get_or v.seen.items pair.after no_seen).times.start_high = elim apart [ inl q ↦ q | inr q ↦ absurd (omega (arith, ints)) ] in
      (r.0, λ a b. settled_forth s v.spans v.seen.items is pair p forth (r.1 forth))

  -- the first one cannot
  pub along_back : (q : Pair) → q ≡ record { before = pair.after; after = pair.before } → IsOpenOrder v.seen.items pair → SettlesOrder v.spans v.seen.items q old new → Settles v w (IsSettledAlong v w pair) old new
  along_back q same back h = λ s is has all.
      let r = h s is all in
      (r.0, λ a b. settled_back s v.spans v.seen.items is pair q same p back r.1)

  -- either can
  pub along_open : (q : Pair) → q ≡ record { before = pair.after; after = pair.before } → IsOpenOrder v.seen.items pair → IsOpenOrder v.seen.items q → Settles v w (IsSettledAlong v w pair) old old
  along_open q same back forth = λ s is has all.
      (all, λ a b. settled_open s v.spans v.seen.items is pair p (subst (λ (r : Pair). IsOpenOrder v.seen.items r) same forth) back)

pub first_settles : (v w : Direction) (j n : ℕ) (old mid new : List Narrowing) → Settles v w (AreFirstSettled v w j n) old mid → Settles v w (AreBoxesSettled v w (pair_of_places j n)) mid new → Settles v w (AreFirstSettled v w j (n + 1)) old new
first_settles v w j n old mid new f g = λ s is has h.
    let b = g s is has h in
    let a = f s is has b.0 in (
      a.0,
      λ i l. elim (below_or_same i n l) [
        | inl k ↦ a.1 i k
        | inr k ↦ subst (λ (m : ℕ). AreBoxesSettled v w (pair_of_places j m) s) (sym k) b.1
      ],
    )

pub all_settle : (v w : Direction) (n : ℕ) (old mid new : List Narrowing) → Settles v w (AreAllSettled v w n) old mid → Settles v w (AreFirstSettled v w n n) mid new → Settles v w (AreAllSettled v w (n + 1)) old new
all_settle v w n old mid new f g = λ s is has h.
    let b = g s is has h in
    let a = f s is has b.0 in (
      a.0,
      λ j l. elim (below_or_same j n l) [
        | inl k ↦ a.1 j k
        | inr k ↦ subst (λ (m : ℕ). AreFirstSettled v w m m s) (sym k) b.1
      ],
    )

-- What rest leaves of two spans: where each target is true, one comes after the other where it must.
use Rattle.std.specs.Prelude.{IfSome, int_le}
use Rattle.std.proofs.Common.{◌≡◌, ℕ, ◌<◌, ◌+◌, ◌≤ℤ◌, ◌<ℤ◌, ◌-ℤ◌, ◌⊎◌, inl, inr, ℤ, Bool, true, false, Option, Some, None, List, [], ◌∷◌, length, get_or, refl, sym, subst, arith}
use Rattle.std.proofs.lemmas.Int.{ints}
use Rattle.std.proofs.lemmas.List.{get_or_default}
use Rattle.std.proofs.lemmas.List.Elements.{All-head}
use Rattle.cps_domain.proofs.Tests.{true_le}
use Rattle.cps_literal.specs.declared.atom.Atom.{Atom}
use Rattle.cps_instance.specs.declared.task.Span.{Span}
use Rattle.cps_instance.proofs.Agreeing.{All-append_left, All-append_right}
use Rattle.cps_trail.specs.Trail.{Trail, IsTrueNow, IsInside}
use Rattle.cps_rule.specs.declared.rule.Narrowing.{Narrowing}
use Rattle.cps_propagate.specs.Now.{IsOpenTo}
use Rattle.cps_propagate.specs.Strength.{MayEndAt, IsInOrder, FollowsWhereForced, IsStrongNoOverlap}
use Rattle.cps_p_span.specs.declared.pairs.Pair.{Pair}
use Rattle.cps_p_span.specs.declared.seen.Seen.{Seen}
use Rattle.cps_p_span.specs.Citing.{AreTrueNow}
use Rattle.cps_p_span.specs.Hulls.{Proposes}
use Rattle.cps_p_span.specs.Spans.{lead, IsSpanSeen, KeepsStartFrom, KeepsEndUpTo, AreSeen, AreAllowed, IsPair, IsOrderOpen, IsPairSettled, AreFirstSettled, ArePairsSettled, SettlesPair, SettlesFirst, SettlesPairs, pair_of_places, no_seen}
use Rattle.cps_p_span.proofs.Timing.{zip_at}
use Rattle.cps_p_span.proofs.Pairing.{less_or, below_or_same}
use Rattle.cps_p_span.proofs.Ordering.{may_precede, has_orders, sure_at}

pub le_or_less : (a b : ℤ) → (a ≤ℤ b) ⊎ (b <ℤ a)
le_or_less a b = by_test (int_le a b) refl
  where
    by_test : (t : Bool) → int_le a b ≡ t → (a ≤ℤ b) ⊎ (b <ℤ a)
    by_test true e = inl (true_le a b e)
    by_test false e = inr (grind (arith, ints))

-- a list that gained a target, if there was one
pub proposed : (s : Trail) (t : Option Atom) (old new : List Narrowing) → Proposes t old new → AreTrueNow s new → AreTrueNow s old × IfSome t (IsTrueNow s)
proposed s None old new e h = (subst (λ (ns : List Narrowing). AreTrueNow s ns) e h, tt)
proposed s (Some t) old new (hint, e) h =
    let P : Narrowing → Type 0 = λ n. IsTrueNow s n.target in
    let n : Narrowing = record { target = t; hint = hint } in
    let k = subst (λ (ns : List Narrowing). AreTrueNow s ns) e h in
    (All-append_left P old (n ∷ []) k, All-head P n [] (All-append_right P old (n ∷ []) k))

-- a start that was bounded, or that was late enough
pub later : (s : Trail) (q : Span) (time low high : ℤ) (t : Option Atom) → IfSome t (KeepsStartFrom q time) → (t ≡ None → IsInside time → time ≤ℤ low) → IfSome t (IsTrueNow s) → ((x : ℤ) → IsOpenTo s q.start x → low ≤ℤ x) → IsInside low → IsInside high → time ≤ℤ high
    → (x : ℤ) → IsOpenTo s q.start x → time ≤ℤ x
later s q time low high (Some u) now none holds least a b fits x o = now s holds x o
later s q time low high None now none holds least a b fits x o =
    let k = least x o in
    elim (le_or_less time low) [
      | inl enough ↦ omega (arith, ints)
      | inr less ↦ (let l = a.low in let m = b.high in let enough = none refl (record { low = omega (arith, ints); high = omega (arith, ints) }) in omega (arith, ints))
    ]

-- an end that was bounded, or that was early enough
pub earlier : (s : Trail) (p : Span) (time low high : ℤ) (t : Option Atom) → IfSome t (KeepsEndUpTo p time) → (t ≡ None → IsInside (time -ℤ lead p.length) → high ≤ℤ time) → IfSome t (IsTrueNow s)
    → ((e : ℤ) → MayEndAt s p.start p.end p.length e → e ≤ℤ high) → IsInside (low -ℤ lead p.length) → IsInside (high -ℤ lead p.length) → low ≤ℤ time → (e : ℤ) → MayEndAt s p.start p.end p.length e → e ≤ℤ time
earlier s p time low high (Some u) now none holds most a b fits e m = now s holds e m
earlier s p time low high None now none holds most a b fits e m =
    let k = most e m in
    elim (le_or_less high time) [
      | inl enough ↦ omega (arith, ints)
      | inr less ↦ (let l = a.low in let n = b.high in let enough = none refl (record { low = omega (arith, ints); high = omega (arith, ints) }) in omega (arith, ints))
    ]

module _ (s : Trail) (ps : List Span) (vs : List Seen) (are : AreSeen s ps vs) where
  at : (k : ℕ) (d : Span) → k < length ps → IsSpanSeen s (get_or ps k d) (get_or vs k no_seen)
  at k d l = zip_at (IsSpanSeen s) ps vs k d no_seen are.seen l

  pub in_order : (pair : Pair) (d e : Span) (t u : Option Atom) → IsPair (length ps) pair → IfSome t (KeepsStartFrom (get_or ps pair.after d) (get_or vs pair.before no_seen).times.end_low)
      → (t ≡ None → IsInside (get_or vs pair.before no_seen).times.end_low → (get_or vs pair.before no_seen).times.end_low ≤ℤ (get_or vs pair.after no_seen).times.start_low)
      → IfSome u (KeepsEndUpTo (get_or ps pair.before e) (get_or vs pair.after no_seen).times.start_high)
      → (u ≡ None → IsInside ((get_or vs pair.after no_seen).times.start_high -ℤ lead (get_or ps pair.before e).length) → (get_or vs pair.before no_seen).times.end_high ≤ℤ (get_or vs pair.after no_seen).times.start_high)
      → IfSome t (IsTrueNow s) → IfSome u (IsTrueNow s) → IsOrderOpen vs pair → (f : Span) → IsInOrder s (get_or ps pair.before f) (get_or ps pair.after f)
  in_order pair d e t u p start no_start end' no_end t_holds u_holds fits f =
      let b = (at pair.before e p.before).times in
      let a = (at pair.after d p.after).times in
      let early = (get_or vs pair.before no_seen).times in
      let late = (get_or vs pair.after no_seen).times in
      let here : IsInOrder s (get_or ps pair.before e) (get_or ps pair.after d) = record {
        starts = λ x o. (early.end_low, b.end_first, later s (get_or ps pair.after d) early.end_low late.start_low late.start_high t start no_start t_holds a.start_low a.inside.start_low a.inside.start_high fits x o);
        ends = λ x m. (late.start_high, a.start_last, earlier s (get_or ps pair.before e) late.start_high early.end_low early.end_high u end' no_end u_holds b.end_most b.inside.end_low b.inside.end_high fits x m);
      } in
      subst (λ (z : Span). IsInOrder s z (get_or ps pair.after f)) (get_or_default ps pair.before e f p.before)
      (subst (λ (z : Span). IsInOrder s (get_or ps pair.before e) z) (get_or_default ps pair.after d f p.after) here)

  -- a span that may come first need not follow
  pub unforced : (i j : ℕ) (d : Span) → i < length ps → j < length ps → (get_or vs j no_seen).times.end_low ≤ℤ (get_or vs i no_seen).times.start_high → FollowsWhereForced s (get_or ps i d) (get_or ps j d)
  unforced i j d l m h = λ no. absurd (no (may_precede s ps vs are.seen j i d m l h))

  pub settled_open : (pair : Pair) → IsPair (length ps) pair → IsOrderOpen vs pair → (get_or vs pair.after no_seen).times.end_low ≤ℤ (get_or vs pair.before no_seen).times.start_high → IsPairSettled s ps vs pair
  settled_open pair p forth back = λ e f d. (unforced pair.before pair.after d p.before p.after back, unforced pair.after pair.before d p.after p.before forth)

  -- where the second of two cannot come first, and they are in order
  pub settled_forth : (pair : Pair) → IsPair (length ps) pair → IsOrderOpen vs pair → ((d : Span) → IsInOrder s (get_or ps pair.before d) (get_or ps pair.after d)) → IsPairSettled s ps vs pair
  settled_forth pair p forth h = λ e f d. ((λ no. h d), unforced pair.after pair.before d p.after p.before forth)

  pub settled_back : (pair q : Pair) → q ≡ record { before = pair.after; after = pair.before } → IsPair (length ps) pair → (get_or vs pair.after no_seen).times.end_low ≤ℤ (get_or vs pair.before no_seen).times.start_high
      → (IsOrderOpen vs q → (d : Span) → IsInOrder s (get_or ps q.before d) (get_or ps q.after d)) → IsPairSettled s ps vs pair
  settled_back pair q is p back h =
      let k = subst (λ (r : Pair). IsOrderOpen vs r → (d : Span) → IsInOrder s (get_or ps r.before d) (get_or ps r.after d)) is h in
      λ e f d. (unforced pair.before pair.after d p.before p.after back, λ no. k back d)

  pub strong_of : AreAllowed vs (length ps) → ArePairsSettled s ps vs (length ps) → IsStrongNoOverlap s ps
  strong_of allowed settled = record {
    orders = has_orders s ps vs are.seen allowed;
    follow = λ i j d differ a b. elim (less_or i j differ) [
      | inl l ↦ (settled j b.within i l (sure_at s ps vs are.seen j d b) (sure_at s ps vs are.seen i d a) d).1
      | inr l ↦ (settled i a.within j l (sure_at s ps vs are.seen i d a) (sure_at s ps vs are.seen j d b) d).0
    ];
  }

-- one more, and all of one more
pub settled_more : (s : Trail) (ps : List Span) (vs : List Seen) (j n : ℕ) → AreFirstSettled s ps vs j n → IsPairSettled s ps vs (pair_of_places j n) → AreFirstSettled s ps vs j (n + 1)
settled_more s ps vs j n h g = λ i l. elim (below_or_same i n l) [
  | inl k ↦ h i k
  | inr k ↦ subst (λ (m : ℕ). IsPairSettled s ps vs (pair_of_places j m)) (sym k) g
]

pub first_settles : (ps : List Span) (vs : List Seen) (j n : ℕ) (old mid new : List Narrowing) → SettlesFirst ps vs j n old mid → SettlesPair ps vs (pair_of_places j n) mid new → SettlesFirst ps vs j (n + 1) old new
first_settles ps vs j n old mid new f g = λ s are h.
    let b = g s are h in
    let a = f s are b.0 in
    (a.0, settled_more s ps vs j n a.1 b.1)

pub all_settle : (ps : List Span) (vs : List Seen) (n : ℕ) (old mid new : List Narrowing) → SettlesPairs ps vs n old mid → SettlesFirst ps vs n n mid new → SettlesPairs ps vs (n + 1) old new
all_settle ps vs n old mid new f g = λ s are h.
    let b = g s are h in
    let a = f s are b.0 in (
      a.0,
      λ j l. elim (below_or_same j n l) [
        | inl k ↦ a.1 j k
        | inr k ↦ subst (λ (m : ℕ). AreFirstSettled s ps vs m m) (sym k) b.1
      ],
    )

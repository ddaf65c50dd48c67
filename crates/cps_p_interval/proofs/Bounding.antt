-- What offers and an interval's bounds give.
use Rattle.std.proofs.Common.{◌≡◌, ◌<◌, ◌∷◌, ◌≤ℤ◌, ◌<ℤ◌, ◌+ℤ◌, ◌⊎◌, inl, inr, ℕ, ℤ, pos, true, List, [], length, sym, ap, subst, arith}
use Rattle.std.specs.List.{All}
use Rattle.std.proofs.lemmas.Int.{ints, clamps}
use Rattle.std.proofs.lemmas.List.Elements.{All-push, All-nil, All-head}
use Rattle.cps_domain.proofs.Tests.{le_true, true_le}
use Rattle.cps_literal.specs.declared.atom.Atom.{Atom}
use Rattle.cps_literal.specs.declared.atom.Op.{Op}
use Rattle.cps_literal.specs.declared.atom.Op.TheVariants.{Ge, Le}
use Rattle.std.specs.Prelude.{int_le}
use Rattle.cps_literal.specs.Truth.{value_at, atom_holds, meets}
use Rattle.cps_instance.specs.declared.task.Body.{Body}
use Rattle.cps_instance.specs.Terms.{Domains}
use Rattle.cps_instance.proofs.Agreeing.{All-append_left, All-append_right}
use Rattle.cps_trail.specs.Trail.{Trail, IsAdmitted, IsInside, IsTrueNow}
use Rattle.cps_rule.specs.declared.rule.Narrowing.{Narrowing}
use Rattle.cps_propagate.specs.Strength.{MayBeInterval, IsStrongInterval}
use Rattle.cps_rule.specs.Rules.{IsGiven, IsImpossible, IsAtRest, IsFittingRule}
use Rattle.cps_p_interval.specs.declared.interval.Places.{Places}
use Rattle.cps_p_interval.specs.declared.interval.Hulls.{Hulls}
use Rattle.cps_p_span.specs.declared.hull.Hull.{Hull}
use Rattle.cps_p_span.specs.Citing.{AreTrueNow, GivesMore}
use Rattle.cps_p_span.specs.Hulls.{IsHullNow, IsTrueWithin, OffersAtom}
use Rattle.cps_p_span.proofs.Settling.{le_or_less}
use Rattle.cps_p_interval.specs.Intervals.{body_of, IsAboutPlace, ArePlaces, AreHullsInside, AreInterval, AreHullsMeasured, FitsInterval, AreAllWithin, KeepsWithin, least_size, most_size, least_end, most_end, least_start, most_start}

pub gives_offered : (body : Body) (s : Trail) (hull : Hull) (t : Atom) (old new : List Narrowing) → IsGiven body s t → OffersAtom hull t old new → GivesMore body s old new
gives_offered body s hull t old new g (inl e) h = subst (λ (ns : List Narrowing). All (λ n. IsGiven body s n.target) ns) (sym e.0) h
gives_offered body s hull t old new g (inr (hint, e)) h =
    subst (λ (ns : List Narrowing). All (λ n. IsGiven body s n.target) ns) (sym e) (All-push (λ (n : Narrowing). IsGiven body s n.target) old (record { target = t; hint = hint }) h g)

-- a bound that was offered is true where all targets are
offered : (s : Trail) (i : ℕ) (hull : Hull) (t : Atom) (op : Op) (v : ℤ) (old new : List Narrowing) → t ≡ record { subject = i; op = op; value = v } → IsHullNow s i hull → OffersAtom hull t old new → AreTrueNow s new
    → AreTrueNow s old × (IsInside v → (meets op v hull.low ≡ true) × (meets op v hull.high ≡ true))
offered s i hull t op v old new e m (inl k) h =
    let span = m.least hull.high m.high in (
      subst (λ (ns : List Narrowing). AreTrueNow s ns) k.0 h,
      λ inside.
          let within = subst (λ (u : Atom). IsTrueWithin hull u) e (k.1 (subst (λ (u : Atom). IsInside u.value) (sym e) inside)) in
          (within hull.low (omega (arith, ints)) span, within hull.high span (omega (arith, ints))),
    )
offered s i hull t op v old new e m (inr (hint, k)) h =
    let P : Narrowing → Type 0 = λ n. IsTrueNow s n.target in
    let n : Narrowing = record { target = t; hint = hint } in
    let all = subst (λ (ns : List Narrowing). AreTrueNow s ns) k h in
    let now = subst (λ (u : Atom). IsTrueNow s u) e (All-head P n [] (All-append_right P old (n ∷ []) all)) in
    (All-append_left P old (n ∷ []) all, λ inside. (now hull.low m.low, now hull.high m.high))

-- two bounds that were offered
pub keeps_within : (i : ℕ) (hull : Hull) (t u : Atom) (v w least most : ℤ) (old mid new : List Narrowing) → t ≡ record { subject = i; op = Ge; value = v } → v ≡ least → u ≡ record { subject = i; op = Le; value = w } → w ≡ most → OffersAtom hull t old mid → OffersAtom hull u mid new
    → KeepsWithin i hull least most old new
keeps_within i hull t u v w least most old mid new e same_low f same_high o p = λ s m h.
    let high = offered s i hull u Le w mid new f m p h in
    let low = offered s i hull t Ge v old mid e m o high.0 in (
      low.0,
      record {
        low = λ inside. subst (λ (x : ℤ). x ≤ℤ hull.low) same_low (true_le v hull.low (low.1 (subst IsInside (sym same_low) inside)).0);
        high = λ inside. subst (λ (x : ℤ). hull.high ≤ℤ x) same_high (true_le hull.high w (high.1 (subst IsInside (sym same_high) inside)).1);
      },
    )

-- three lists one after the other
pub keeps_all : (s : Trail) (p : Places) (h : Hulls) (a b d e : List Narrowing) → AreHullsMeasured s p h → KeepsWithin p.size h.size (least_size h) (most_size h) a b → KeepsWithin p.end h.end (least_end h) (most_end h) b d → KeepsWithin p.start h.start (least_start h) (most_start h) d e
    → AreTrueNow s e → AreAllWithin h
keeps_all s p h a b d e m size end' start all =
    let third = start s m.start all in
    let second = end' s m.end third.0 in
    let first = size s m.size second.0 in
    record { size = first.1; end = second.1; start = third.1 }

-- what fits has its subjects
pub places_of : (first : Domains) (p : Places) → IsFittingRule first (body_of p) → ArePlaces (length first) p
places_of first p h = record { start = h.subjects 0 0 (omega arith); end = h.subjects 1 0 (omega arith); size = h.subjects 2 0 (omega arith) }

-- an atom about one of the three
pub own_start : (p : Places) (u : Atom) (op : Op) (v : ℤ) → u ≡ record { subject = p.start; op = op; value = v } → IsAboutPlace p u
own_start p u op v e = (0, omega arith, sym (ap (λ (w : Atom). w.subject) e))

pub own_end : (p : Places) (u : Atom) (op : Op) (v : ℤ) → u ≡ record { subject = p.end; op = op; value = v } → IsAboutPlace p u
own_end p u op v e = (1, omega arith, sym (ap (λ (w : Atom). w.subject) e))

pub own_size : (p : Places) (u : Atom) (op : Op) (v : ℤ) → u ≡ record { subject = p.size; op = op; value = v } → IsAboutPlace p u
own_size p u op v e = (2, omega arith, sym (ap (λ (w : Atom). w.subject) e))

-- measured ends are inside
pub inside_of : (s : Trail) (p : Places) (h : Hulls) → AreHullsMeasured s p h → AreHullsInside h
inside_of s p h m = record {
  start_low = m.start.low_inside;
  start_high = m.start.high_inside;
  end_low = m.end.low_inside;
  end_high = m.end.high_inside;
  size_low = m.size.low_inside;
  size_high = m.size.high_inside;
}

-- values of an interval's subjects between the ends
pub record AreWithin (p : Places) (h : Hulls) (xs : List ℤ) : Type 0 where
  pub a : h.start.low ≤ℤ value_at xs p.start
  pub b : value_at xs p.start ≤ℤ h.start.high
  pub c : h.end.low ≤ℤ value_at xs p.end
  pub d : value_at xs p.end ≤ℤ h.end.high
  pub e : h.size.low ≤ℤ value_at xs p.size
  pub f : value_at xs p.size ≤ℤ h.size.high

within : (s : Trail) (p : Places) (h : Hulls) (xs : List ℤ) → ArePlaces (length s.first) p → AreHullsMeasured s p h → IsAdmitted s.first s.entries xs → AreWithin p h xs
within s p h xs l m o = record {
  a = m.start.least (value_at xs p.start) (o p.start l.start);
  b = m.start.greatest (value_at xs p.start) (o p.start l.start);
  c = m.end.least (value_at xs p.end) (o p.end l.end);
  d = m.end.greatest (value_at xs p.end) (o p.end l.end);
  e = m.size.least (value_at xs p.size) (o p.size l.size);
  f = m.size.greatest (value_at xs p.size) (o p.size l.size);
}

pub given : (s : Trail) (p : Places) (h : Hulls) (t : Atom) → ArePlaces (length s.first) p → AreHullsMeasured s p h → t.subject < length s.first → ((xs : List ℤ) → AreWithin p h xs → AreInterval p xs → atom_holds xs t ≡ true) → IsGiven (body_of p) s t
given s p h t l m n f = record { subject = n; at = λ xs o i. f xs (within s p h xs l m o) i }

pub impossible : (s : Trail) (p : Places) (h : Hulls) → ArePlaces (length s.first) p → AreHullsMeasured s p h → (h.size.high <ℤ pos 0) ⊎ ((h.end.high <ℤ least_end h) ⊎ ((h.start.high +ℤ h.size.high) <ℤ h.end.low)) → IsImpossible (body_of p) s
impossible s p h l m (inl q) = record { at = λ xs o i. (let w = within s p h xs l m o in let z = i.0 in absurd (omega (arith, ints))) }
impossible s p h l m (inr (inl q)) = record { at = λ xs o i. (let w = within s p h xs l m o in let y = i.0 in let z = i.1 in absurd (omega (arith, ints, clamps))) }
impossible s p h l m (inr (inr q)) = record { at = λ xs o i. (let w = within s p h xs l m o in let z = i.1 in absurd (omega (arith, ints))) }

-- an atom that is a bound
pub below_of : (n : ℕ) (u : Atom) (i : ℕ) (o : Op) (v : ℤ) → u ≡ record { subject = i; op = o; value = v } → i < n → u.subject < n
below_of n u i o v e l = subst (λ (w : Atom). w.subject < n) (sym e) l

pub least_of : (xs : List ℤ) (u : Atom) (i : ℕ) (v : ℤ) → u ≡ record { subject = i; op = Ge; value = v } → atom_holds xs u ≡ true → v ≤ℤ value_at xs i
least_of xs u i v e h = true_le v (value_at xs i) (subst (λ (w : Atom). atom_holds xs w ≡ true) e h)

pub most_of : (xs : List ℤ) (u : Atom) (i : ℕ) (v : ℤ) → u ≡ record { subject = i; op = Le; value = v } → atom_holds xs u ≡ true → value_at xs i ≤ℤ v
most_of xs u i v e h = true_le (value_at xs i) v (subst (λ (w : Atom). atom_holds xs w ≡ true) e h)

pub least_is : (xs : List ℤ) (u : Atom) (i : ℕ) (v : ℤ) → u ≡ record { subject = i; op = Ge; value = v } → v ≤ℤ value_at xs i → atom_holds xs u ≡ true
least_is xs u i v e h = subst (λ (w : Atom). atom_holds xs w ≡ true) (sym e) (le_true v (value_at xs i) h)

pub most_is : (xs : List ℤ) (u : Atom) (i : ℕ) (v : ℤ) → u ≡ record { subject = i; op = Le; value = v } → value_at xs i ≤ℤ v → atom_holds xs u ≡ true
most_is xs u i v e h = subst (λ (w : Atom). atom_holds xs w ≡ true) (sym e) (le_true (value_at xs i) v h)

pub least_holds : (xs : List ℤ) (t : Atom) (i : ℕ) → t.op ≡ Ge → t.subject ≡ i → t.value ≤ℤ value_at xs i → atom_holds xs t ≡ true
least_holds xs t i e f h = subst (λ (o : Op). meets o t.value (value_at xs t.subject) ≡ true) (sym e) (subst (λ (j : ℕ). int_le t.value (value_at xs j) ≡ true) (sym f) (le_true t.value (value_at xs i) h))

pub most_holds : (xs : List ℤ) (t : Atom) (i : ℕ) → t.op ≡ Le → t.subject ≡ i → value_at xs i ≤ℤ t.value → atom_holds xs t ≡ true
most_holds xs t i e f h = subst (λ (o : Op). meets o t.value (value_at xs t.subject) ≡ true) (sym e) (subst (λ (j : ℕ). int_le (value_at xs j) t.value ≡ true) (sym f) (le_true (value_at xs i) t.value h))

pub gives_three : (body : Body) (s : Trail) (a b d e : List Narrowing) → a ≡ [] → GivesMore body s a b → GivesMore body s b d → GivesMore body s d e → All (λ n. IsGiven body s n.target) e
gives_three body s a b d e none f g h = h (g (f (subst (λ (ns : List Narrowing). All (λ n. IsGiven body s n.target) ns) (sym none) (All-nil (λ (n : Narrowing). IsGiven body s n.target)))))

pub may_be : (s : Trail) (p : Places) (h : Hulls) → AreHullsMeasured s p h → FitsInterval h → MayBeInterval s p.start p.end p.size
may_be s p h m o = record {
  long = (h.size.high, m.size.high, o.some);
  early = (h.start.low, h.end.high, h.size.low, m.start.low, m.end.high, m.size.low, o.not_before);
  late = (h.start.high, h.end.low, h.size.high, m.start.high, m.end.low, m.size.high, o.not_after);
}

-- a bound holds that is in the way of nothing where it cannot stand in a fact
holds : (a b : ℤ) → (b <ℤ a → IsInside a) → (IsInside a → a ≤ℤ b) → a ≤ℤ b
holds a b f g = elim (le_or_less a b) [ inl k ↦ k | inr less ↦ g (f less) ]

holds_up : (a b : ℤ) → (a <ℤ b → IsInside a) → (IsInside a → b ≤ℤ a) → b ≤ℤ a
holds_up a b f g = elim (le_or_less b a) [ inl k ↦ k | inr less ↦ g (f less) ]

module _ (s : Trail) (p : Places) (h : Hulls) (m : AreHullsMeasured s p h) (o : FitsInterval h) (w : AreAllWithin h) where
  pub strong : IsStrongInterval s p.start p.end p.size
  strong =
      let a = m.start.low_inside in
      let b = m.start.high_inside in
      let d = m.end.low_inside in
      let e = m.end.high_inside in
      let f = m.size.low_inside in
      let g = m.size.high_inside in
      let some = o.some in
      let early = o.not_before in
      let late = o.not_after in
      let size_low = holds (least_size h) h.size.low (λ less. record { low = omega (arith, ints, clamps); high = omega (arith, ints, clamps) }) w.size.low in
      let size_high = holds_up (most_size h) h.size.high (λ less. record { low = omega (arith, ints, clamps); high = omega (arith, ints, clamps) }) w.size.high in
      let end_low = holds (least_end h) h.end.low (λ less. record { low = omega (arith, ints, clamps); high = omega (arith, ints, clamps) }) w.end.low in
      let end_high = holds_up (most_end h) h.end.high (λ less. record { low = omega (arith, ints, clamps); high = omega (arith, ints, clamps) }) w.end.high in
      let start_low = holds (least_start h) h.start.low (λ less. record { low = omega (arith, ints, clamps); high = omega (arith, ints, clamps) }) w.start.low in
      let start_high = holds_up (most_start h) h.start.high (λ less. record { low = omega (arith, ints, clamps); high = omega (arith, ints, clamps) }) w.start.high in
      record {
        from_zero = λ z k. (let l = m.size.least z k in omega (arith, ints, clamps));
        start_low = λ x k. (h.end.low, h.size.high, m.end.low, m.size.high, (let l = m.start.least x k in omega (arith, ints)));
        start_high = λ x k. (h.end.high, h.size.low, m.end.high, m.size.low, (let l = m.start.greatest x k in omega (arith, ints, clamps)));
        end_low = λ y k. (h.start.low, h.size.low, m.start.low, m.size.low, (let l = m.end.least y k in omega (arith, ints, clamps)));
        end_high = λ y k. (h.start.high, h.size.high, m.start.high, m.size.high, (let l = m.end.greatest y k in omega (arith, ints)));
        size_low = λ z k. (h.start.high, h.end.low, m.start.high, m.end.low, (let l = m.size.least z k in omega (arith, ints, clamps)));
        size_high = λ z k. (h.start.low, h.end.high, m.start.low, m.end.high, (let l = m.size.greatest z k in omega (arith, ints)));
      }

  pub at_rest : IsAtRest (body_of p) s
  at_rest = record {
    decided = λ fixed xs opened.
        let a = fixed 0 0 (omega arith) h.start.low (value_at xs p.start) m.start.low (opened 0 0 (omega arith)) in
        let b = fixed 0 0 (omega arith) h.start.high (value_at xs p.start) m.start.high (opened 0 0 (omega arith)) in
        let d = fixed 1 0 (omega arith) h.end.low (value_at xs p.end) m.end.low (opened 1 0 (omega arith)) in
        let e = fixed 1 0 (omega arith) h.end.high (value_at xs p.end) m.end.high (opened 1 0 (omega arith)) in
        let f = fixed 2 0 (omega arith) h.size.low (value_at xs p.size) m.size.low (opened 2 0 (omega arith)) in
        let g = fixed 2 0 (omega arith) h.size.high (value_at xs p.size) m.size.high (opened 2 0 (omega arith)) in
        let some = o.some in
        let early = o.not_before in
        let late = o.not_after in
        (omega (arith, ints), omega (arith, ints, clamps));
    strong = strong;
  }

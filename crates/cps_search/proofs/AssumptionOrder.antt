-- That assumptions are decided first stays so, and only assumptions were decided where one of them is false.
use Rattle.std.proofs.Common.{◌≡◌, ◌⊎◌, inl, inr, ℕ, zero, suc, ◌+◌, ◌-◌, ◌<◌, ◌≤◌, ℤ, pos, List, [], ◌∷◌, ◌++◌, length, take, take-take, get_or, refl, sym, ◌∙◌, ap, subst, arith, length-append, true≢false}
use Rattle.std.proofs.lemmas.List.{get_or_append_left, get_or-append-add, get_or-take, take-append-le}
use Rattle.std.specs.List.{All}
use Rattle.cps_literal.specs.declared.atom.Atom.{Atom}
use Rattle.cps_literal.specs.Truth.{meets}
use Rattle.cps_instance.specs.Posting.{atom_of}
use Rattle.cps_trail.specs.Trail.{Domains, Trail, Entry, Decision, IsSoundTrail, IsTrueNow}
use Rattle.cps_trail.proofs.Falls.{bool_cases, not_both}
use Rattle.cps_trail.proofs.Times.{IsTrueAfter-all}
use Rattle.cps_conflict.specs.Conflicts.{Reasons}
use Rattle.cps_conflict.specs.Leading.{IsDecisionBehind}
use Rattle.cps_search.specs.Assumptions.{AreAssumedAfter, DecidesThemFirst, IsAssumed, IsFailedAssumption, MayDecide, NoneFails, NoneIsOpen, assumption_at}
use Rattle.cps_search.specs.Moves.{decided}
use Rattle.cps_search.specs.Turns.{IsOnward, GoesOnAndBack}

old_or_new : (k n : ℕ) → (k < n) ⊎ (n ≤ k)
old_or_new k n = grind arith

-- what an entry of a trail gives, where the trails have the same entries up to it
carried : (s t : Trail) (rs : List ℤ) (k : ℕ) (d : Entry) → t.first ≡ s.first → get_or t.entries k d ≡ get_or s.entries k d → take k t.entries ≡ take k s.entries → k < length s.entries → DecidesThemFirst rs s → (get_or t.entries k d).reason ≡ Decision
    → IsAssumed rs (get_or t.entries k d).atom ⊎ AreAssumedAfter rs t.first (take k t.entries)
carried s t rs k d first here front l h is =
    elim (h.each k d l (ap (λ (e : Entry). e.reason) (sym here) ∙ is)) as (λ u. IsAssumed rs (get_or t.entries k d).atom ⊎ AreAssumedAfter rs t.first (take k t.entries)) [
      | inl a ↦ inl (subst (λ (e : Entry). IsAssumed rs e.atom) (sym here) a)
      | inr all ↦ inr (subst (λ (ds : Domains). AreAssumedAfter rs ds (take k t.entries)) (sym first) (subst (λ (es : List Entry). AreAssumedAfter rs s.first es) (sym front) all))
    ]

-- inference adds no decision
pub first-onward : (rs : List ℤ) (s t : Trail) → IsOnward s t → DecidesThemFirst rs s → DecidesThemFirst rs t
first-onward rs s t on h = record {
  each = λ k d l is. elim (old_or_new k (length s.entries)) [
    | inl old ↦ carried s t rs k d on.first
        (ap (λ (es : List Entry). get_or es k d) on.entries ∙ get_or_append_left s.entries on.added d k old)
        (ap (λ (es : List Entry). take k es) on.entries ∙ take-append-le k s.entries on.added (omega (arith, old))) old h is
    | inr new ↦
        let size = ap (λ (es : List Entry). length es) on.entries ∙ length-append s.entries on.added in
        let j = k - length s.entries in
        let at : get_or t.entries k d ≡ get_or on.added j d = ap (λ (es : List Entry). get_or es k d) on.entries ∙ ap (λ (n : ℕ). get_or (s.entries ++ on.added) n d) (let e : k ≡ length s.entries + j = omega (arith, new) in e) ∙ get_or-append-add s.entries on.added j d in
        absurd ((on.inferred j d (omega (arith, l, size, new))).not_decided (ap (λ (e : Entry). e.reason) (sym at) ∙ is))
  ];
}

-- the last entries may go
pub first-front : (rs : List ℤ) (s t : Trail) → t.first ≡ s.first → t.entries ≡ take (length t.entries) s.entries → DecidesThemFirst rs s → DecidesThemFirst rs t
first-front rs s t first front h = record {
  each = λ k d l is.
      let shorter : length t.entries ≤ length s.entries = short (length t.entries) s.entries (ap (λ (es : List Entry). length es) front) in
      carried s t rs k d first
      (ap (λ (es : List Entry). get_or es k d) front ∙ get_or-take (length t.entries) s.entries k d l)
      (ap (λ (es : List Entry). take k es) front ∙ take-take k (length t.entries) s.entries (omega (arith, l))) (omega (arith, l, shorter)) h is;
}
  where
    short : (n : ℕ) (es : List Entry) → n ≡ length (take n es) → n ≤ length es
    short n es e = elim (old_or_new (length es) n) [
      | inl less ↦ absurd (let m : length (take n es) ≤ length es = most n es in omega (arith, less, e, m))
      | inr fits ↦ fits
    ]
      where
        most : (n : ℕ) (es : List Entry) → length (take n es) ≤ length es
        most zero es = omega arith
        most (suc n) [] = omega arith
        most (suc n) (f ∷ fs) = (let rest = most n fs in omega (arith, rest))

pub first-on_and_back : (rs : List ℤ) (s t : Trail) → GoesOnAndBack s t → DecidesThemFirst rs s → DecidesThemFirst rs t
first-on_and_back rs s t on h = first-front rs on.furthest t (on.first ∙ sym on.onward.first) on.front (first-onward rs s on.furthest on.onward h)

-- a store without entries
pub first-none : (rs : List ℤ) (s : Trail) → s.entries ≡ [] → DecidesThemFirst rs s
first-none rs s none = record { each = λ k d l is. absurd (omega (arith, l, ap (λ (es : List Entry). length es) none)) }

-- at level 0 nothing is decided
pub first-bottom : (rs : List ℤ) (s : Trail) (first : Domains) → IsSoundTrail s → s.level ≡ 0 → DecidesThemFirst rs (record s { first = first })
first-bottom rs s first sound bottom = record {
  each = λ k d l is.
      let begins = sound.decisions k d l is in
      let most = sound.levels k d l in
      let up = begins.above in
      absurd (omega (arith, bottom, most, up));
}

-- the same entries
pub first-same : (rs : List ℤ) (s t : Trail) → t ≡ s → DecidesThemFirst rs s → DecidesThemFirst rs t
first-same rs s t same h = subst (λ (x : Trail). DecidesThemFirst rs x) (sym same) h

-- an atom is true where it cannot fail to be
true_now : (s : Trail) (t : Atom) → ((IsTrueNow s t → ⊥) → ⊥) → IsTrueNow s t
true_now s t h x a = elim (bool_cases (meets t.op t.value x)) [
  | inl met ↦ met
  | inr not ↦ absurd (h (λ all. true≢false (sym (all x a) ∙ not)))
]

-- where none is undecided and none fails, all are true
pub all_assumed : (rs : List ℤ) (s : Trail) → All (λ r. (atom_of r).subject < length s.first) rs → NoneIsOpen rs s → NoneFails rs s → AreAssumedAfter rs s.first s.entries
all_assumed rs s subjects none_open none_fails i l =
    true_now s (assumption_at rs i) (λ not_true. none_open i l (record { subject = subjects i (pos 0) l; not_true = not_true; not_false = none_fails i l }))

-- what may be decided is an assumption, or all of them are true
pub may_decide : (rs : List ℤ) (s : Trail) (t : Atom) → All (λ r. (atom_of r).subject < length s.first) rs → MayDecide rs s t → NoneFails rs s → IsAssumed rs t ⊎ AreAssumedAfter rs s.first s.entries
may_decide rs s t subjects may none_fails = elim may [
  | inl next ↦ inl (record { number = next.number; within = next.is_open.within; is = next.is })
  | inr none ↦ inr (all_assumed rs s subjects none none_fails)
]

-- and so they are still decided first
pub first-decided : (rs : List ℤ) (s : Trail) (t : Atom) → DecidesThemFirst rs s → IsAssumed rs t ⊎ AreAssumedAfter rs s.first s.entries → DecidesThemFirst rs (decided s t)
first-decided rs s t h new = record {
  each = λ k d l is.
      let e : Entry = record { atom = t; level = s.level + 1; reason = Decision } in
      elim (old_or_new k (length s.entries)) [
        | inl old ↦ carried s (decided s t) rs k d refl (get_or_append_left s.entries (e ∷ []) d k old) (take-append-le k s.entries (e ∷ []) (omega (arith, old))) old h is
        | inr last ↦
            let size = length-append s.entries (e ∷ []) in
            let end : k ≡ length s.entries = omega (arith, l, last, size) in
            let at : get_or (s.entries ++ e ∷ []) k d ≡ e = ap (λ (n : ℕ). get_or (s.entries ++ e ∷ []) n d) end ∙ at_end s.entries e d in
            let front : take k (s.entries ++ e ∷ []) ≡ s.entries = ap (λ (n : ℕ). take n (s.entries ++ e ∷ [])) end ∙ front_of s.entries (e ∷ []) in
            elim new as (λ u. IsAssumed rs (get_or (s.entries ++ e ∷ []) k d).atom ⊎ AreAssumedAfter rs s.first (take k (s.entries ++ e ∷ []))) [
              | inl a ↦ inl (subst (λ (f : Entry). IsAssumed rs f.atom) (sym at) a)
              | inr all ↦ inr (subst (λ (es : List Entry). AreAssumedAfter rs s.first es) (sym front) all)
            ]
      ];
}
  where
    at_end : (es : List Entry) (e d : Entry) → get_or (es ++ e ∷ []) (length es) d ≡ e
    at_end [] e d = refl
    at_end (f ∷ es) e d = at_end es e d

    front_of : (es fs : List Entry) → take (length es) (es ++ fs) ≡ es
    front_of [] fs = refl
    front_of (e ∷ es) fs = ap (λ (gs : List Entry). e ∷ gs) (front_of es fs)

-- where one fails, only assumptions were decided
pub only_assumed : (rs : List ℤ) (s : Trail) (failed : ℕ) → All (λ r. (atom_of r).subject < length s.first) rs → IsSoundTrail s → DecidesThemFirst rs s → IsFailedAssumption rs s failed → (k : ℕ) (d : Entry) → k < length s.entries → (get_or s.entries k d).reason ≡ Decision → IsAssumed rs (get_or s.entries k d).atom
only_assumed rs s failed subjects sound h fails k d l is = elim (h.each k d l is) [
  | inl a ↦ a
  | inr all ↦ absurd (not_both s (assumption_at rs failed) (subjects failed (pos 0) fails.within) sound (IsTrueAfter-all s.first s.entries k (assumption_at rs failed) (all failed fails.within)) fails.false_now)
]

-- and so only they are behind it
pub behind_assumed : (makes : Reasons) (rs : List ℤ) (s : Trail) (failed : ℕ) (t : Atom) (decisions : List Atom) → All (λ r. (atom_of r).subject < length s.first) rs → IsSoundTrail s → DecidesThemFirst rs s → IsFailedAssumption rs s failed → All (IsDecisionBehind makes s t) decisions → All (IsAssumed rs) decisions
behind_assumed makes rs s failed t decisions subjects sound h fails all k u l =
    let here = all k u l in
    let d : Entry = record { atom = u; level = 0; reason = Decision } in
    subst (λ (x : Atom). IsAssumed rs x) (here.is d) (only_assumed rs s failed subjects sound h fails here.place d here.within (here.decided d))

-- What a core-guided worker keeps: of its decisions, and of its form when z falls.
use Rattle.std.proofs.Common.{◌≡◌, ◌⊎◌, inl, inr, Option, Some, ℕ, zero, suc, ◌+◌, ◌-◌, ◌<◌, ◌≤◌, ℤ, List, [], ◌∷◌, ◌++◌, length, take, take-take, get_or, refl, sym, ◌∙◌, ap, subst, arith, length-append}
use Rattle.std.proofs.lemmas.List.{get_or_append_left, get_or-append-add, get_or-take, take-append-le}
use Rattle.cps_model.specs.declared.bound.Bound.{Bound}
use Rattle.cps_model.specs.Solutions.{objective_value}
use Rattle.cps_literal.specs.declared.atom.Atom.{Atom}
use Rattle.cps_trail.specs.Trail.{Domains, Trail, Entry, Decision, IsSoundTrail}
use Rattle.cps_port.specs.Order.{BoundLe}
use Rattle.cps_instance.specs.Problem.{Problem}
use Rattle.cps_search.specs.Assumptions.{NoneIsOpen}
use Rattle.cps_search.specs.Ends.{IsDecidedNext}
use Rattle.cps_search.specs.Moves.{decided}
use Rattle.cps_search.specs.Searches.{Search}
use Rattle.cps_search.specs.Turns.{IsOnward, GoesOnAndBack}
use Rattle.cps_search.proofs.BelowBounds.{below_less}
use Rattle.cps_reform.specs.declared.held.Held.{Held}
use Rattle.cps_reform.specs.Forms.{Form}
use Rattle.cps_reform.specs.Floors.{IsReform}
use Rattle.cps_core_guided.specs.Assuming.{AreAssumed, AssumesFirst, IsSomeAssumption}

old_or_new : (k n : ℕ) → (k < n) ⊎ (n ≤ k)
old_or_new k n = grind arith

-- what an entry of a trail gives, where the trails have the same entries up to it
carried : (rs : List ℤ) (s t : Trail) (ts : List Held) (k : ℕ) (d : Entry) → t.first ≡ s.first → get_or t.entries k d ≡ get_or s.entries k d → take k t.entries ≡ take k s.entries → k < length s.entries → AssumesFirst rs s ts → (get_or t.entries k d).reason ≡ Decision
    → IsSomeAssumption rs ts (get_or t.entries k d).atom ⊎ AreAssumed t.first (take k t.entries) ts
carried rs s t ts k d first here front l h is =
    elim (h.each k d l (ap (λ (e : Entry). e.reason) (sym here) ∙ is)) as (λ u. IsSomeAssumption rs ts (get_or t.entries k d).atom ⊎ AreAssumed t.first (take k t.entries) ts) [
      | inl a ↦ inl (subst (λ (e : Entry). IsSomeAssumption rs ts e.atom) (sym here) a)
      | inr all ↦ inr (subst (λ (ds : Domains). AreAssumed ds (take k t.entries) ts) (sym first) (subst (λ (es : List Entry). AreAssumed s.first es ts) (sym front) all))
    ]

-- inference adds no decision
assumes-onward : (rs : List ℤ) (s t : Trail) (ts : List Held) → IsOnward s t → AssumesFirst rs s ts → AssumesFirst rs t ts
assumes-onward rs s t ts on h = record {
  each = λ k d l is. elim (old_or_new k (length s.entries)) [
    | inl old ↦ carried rs s t ts k d on.first
        (ap (λ (es : List Entry). get_or es k d) on.entries ∙ get_or_append_left s.entries on.added d k old)
        (ap (λ (es : List Entry). take k es) on.entries ∙ take-append-le k s.entries on.added (omega (arith, old))) old h is
    | inr new ↦
        let size = ap (λ (es : List Entry). length es) on.entries ∙ length-append s.entries on.added in
        let j = k - length s.entries in
        let at : get_or t.entries k d ≡ get_or on.added j d = ap (λ (es : List Entry). get_or es k d) on.entries ∙ ap (λ (n : ℕ). get_or (s.entries ++ on.added) n d) (let e : k ≡ length s.entries + j = omega (arith, new) in e) ∙ get_or-append-add s.entries on.added j d in
        absurd ((on.inferred j d (omega (arith, l, size, new))).not_decided (ap (λ (e : Entry). e.reason) (sym at) ∙ is))
  ];
}

-- the last entries may go
assumes-front : (rs : List ℤ) (s t : Trail) (ts : List Held) → t.first ≡ s.first → t.entries ≡ take (length t.entries) s.entries → AssumesFirst rs s ts → AssumesFirst rs t ts
assumes-front rs s t ts first front h = record {
  each = λ k d l is.
      let shorter : length t.entries ≤ length s.entries = short (length t.entries) s.entries (ap (λ (es : List Entry). length es) front) in
      carried rs s t ts k d first
      (ap (λ (es : List Entry). get_or es k d) front ∙ get_or-take (length t.entries) s.entries k d l)
      (ap (λ (es : List Entry). take k es) front ∙ take-take k (length t.entries) s.entries (omega (arith, l))) (omega (arith, l, shorter)) h is;
}
  where
    short : (n : ℕ) (es : List Entry) → n ≡ length (take n es) → n ≤ length es
    short n es e = elim (old_or_new (length es) n) [
      | inl less ↦ absurd (let m : length (take n es) ≤ length es = most n es in omega (arith, less, e, m))
      | inr fits ↦ fits
    ]
      where
        most : (n : ℕ) (es : List Entry) → length (take n es) ≤ length es
        most zero es = omega arith
        most (suc n) [] = omega arith
        most (suc n) (f ∷ fs) = (let rest = most n fs in omega (arith, rest))

pub assumes-on-and-back : (rs : List ℤ) (s t : Trail) (ts : List Held) → GoesOnAndBack s t → AssumesFirst rs s ts → AssumesFirst rs t ts
assumes-on-and-back rs s t ts on h = assumes-front rs on.furthest t ts (on.first ∙ sym on.onward.first) on.front (assumes-onward rs s on.furthest ts on.onward h)

pub assumes-due : (rs : List ℤ) (s t : Trail) (ts : List Held) → IsOnward s t → AssumesFirst rs s ts → AssumesFirst rs t ts
assumes-due rs s t ts on h = assumes-onward rs s t ts on h

-- a decision that is an assumption, or that is made where all of them are true
pub assumes-decided : (rs : List ℤ) (s : Trail) (t : Atom) (ts : List Held) → AssumesFirst rs s ts → IsSomeAssumption rs ts t ⊎ AreAssumed s.first s.entries ts → AssumesFirst rs (decided s t) ts
assumes-decided rs s t ts h new = record {
  each = λ k d l is.
      let e : Entry = record { atom = t; level = s.level + 1; reason = Decision } in
      elim (old_or_new k (length s.entries)) [
        | inl old ↦ carried rs s (decided s t) ts k d refl (get_or_append_left s.entries (e ∷ []) d k old) (take-append-le k s.entries (e ∷ []) (omega (arith, old))) old h is
        | inr last ↦
            let size = length-append s.entries (e ∷ []) in
            let end : k ≡ length s.entries = omega (arith, l, last, size) in
            let at : get_or (s.entries ++ e ∷ []) k d ≡ e = ap (λ (n : ℕ). get_or (s.entries ++ e ∷ []) n d) end ∙ at_end s.entries e d in
            let front : take k (s.entries ++ e ∷ []) ≡ s.entries = ap (λ (n : ℕ). take n (s.entries ++ e ∷ [])) end ∙ front_of s.entries (e ∷ []) in
            elim new as (λ u. IsSomeAssumption rs ts (get_or (s.entries ++ e ∷ []) k d).atom ⊎ AreAssumed s.first (take k (s.entries ++ e ∷ [])) ts) [
              | inl a ↦ inl (subst (λ (f : Entry). IsSomeAssumption rs ts f.atom) (sym at) a)
              | inr all ↦ inr (subst (λ (es : List Entry). AreAssumed s.first es ts) (sym front) all)
            ]
      ];
}
  where
    at_end : (es : List Entry) (e d : Entry) → get_or (es ++ e ∷ []) (length es) d ≡ e
    at_end [] e d = refl
    at_end (f ∷ es) e d = at_end es e d

    front_of : (es fs : List Entry) → take (length es) (es ++ fs) ≡ es
    front_of [] fs = refl
    front_of (e ∷ es) fs = ap (λ (gs : List Entry). e ∷ gs) (front_of es fs)

-- at level 0 nothing is decided
pub assumes-bottom : (rs : List ℤ) (s : Trail) (ts : List Held) → IsSoundTrail s → s.level ≡ 0 → AssumesFirst rs s ts
assumes-bottom rs s ts sound bottom = record {
  each = λ k d l is.
      let begins = sound.decisions k d l is in
      let most = sound.levels k d l in
      let up = begins.above in
      absurd (omega (arith, bottom, most, up));
}

-- a form stays one where z falls
pub reform-falls : (p : Problem) (y z : Bound) (f : Form) → BoundLe y z → IsReform p z f → IsReform p y f
reform-falls p y z f h r = record { is = r.is; floor = λ a solution below. r.floor a solution (below_less (objective_value p.model a) y z h below); roomy = r.roomy }

-- where no assumption is undecided, what is next is what is chosen
pub chosen_where_none_open : (chooses : Trail → Option Atom → Type 0) (s : Search) (t : Atom) → NoneIsOpen s.instance.model.assumptions s.store → IsDecidedNext chooses s t → chooses s.store (Some t)
chosen_where_none_open chooses s t none next = elim next [
  | inl assumed ↦ absurd (none assumed.number assumed.is_open.within assumed.is_open.left_open)
  | inr chosen ↦ chosen.1
]

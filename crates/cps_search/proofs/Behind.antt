-- What the reasons of a search say of each free assignment below z.
use Rattle.std.proofs.Common.{ℕ, ℤ, ◌≡◌, ◌∙◌, inl, inr, List, length, sym, ap, subst, arith}
use Rattle.std.proofs.lemmas.List.{take_all}
use Rattle.cps_model.specs.Solutions.{objective_value, IsFree}
use Rattle.cps_literal.specs.declared.atom.Atom.{Atom}
use Rattle.cps_literal.specs.Truth.{atom_holds}
use Rattle.cps_instance.specs.Sums.{extended}
use Rattle.cps_trail.specs.Trail.{Entry, IsSoundTrail, EndsAt, IsFalseAfter, up_to}
use Rattle.cps_trail.proofs.Falls.{bool_cases}
use Rattle.cps_trail.proofs.Marks.{up_to-all}
use Rattle.cps_port.specs.Order.{IsBelow}
use Rattle.cps_conflict.specs.Conflicts.{AreTrueReasons}
use Rattle.cps_conflict.specs.Drafts.{IsBacked}
use Rattle.cps_conflict.specs.Leading.{AreBehind, IsFetched}
use Rattle.cps_conflict.proofs.Bottom.{false_at_bottom}
use Rattle.cps_search.specs.Giving.{IsReasonOfOne}
use Rattle.cps_search.specs.Searches.{Search, IsSoundSearch}
use Rattle.cps_search.specs.Growing.{AreBehindIn, IsFalseBelow}
use Rattle.cps_search.proofs.BelowBounds.{free_within, reasons_below}
use Rattle.cps_search.proofs.SearchInvariants.{reasons_of}
use Rattle.cps_search.proofs.Reasons.{notes_there, reasons_there}

-- the reasons of a search hold at each free assignment below z
module _ (s : Search) (h : IsSoundSearch s) (a : List ℤ) (free : IsFree s.instance.model a) (below : IsBelow (objective_value s.instance.model a) s.z) where
  backed : IsBacked s.store (extended s.instance.defs a)
  backed = record {
    within = free_within s.instance s.store.first a h.instance h.domains free;
    reasons = reasons_below s.instance s.z s.store.entries a (reasons_of s h) free below;
    notes = notes_there s h a free below;
  }

-- so the decisions behind an atom are enough there
pub behind_in : (s : Search) (t : Atom) (decisions : List Atom) → IsSoundSearch s → AreBehind (IsFetched (IsReasonOfOne s.tasks s.base.clauses s.store) s.store) (AreTrueReasons (IsReasonOfOne s.tasks s.base.clauses s.store) s.store) s.store t decisions → AreBehindIn s t decisions
behind_in s t decisions h behind = record {
  led = behind;
  enough = λ a free below on. behind.enough (extended s.instance.defs a) (reasons_there s h a free below) (backed s h a free below) on;
}

-- and what is false at level 0 is false there
pub false_below : (s : Search) → IsSoundSearch s → IsSoundTrail s.store → s.store.level ≡ 0 → IsFalseBelow s
false_below s h sound bottom t known off a free below = elim (bool_cases (atom_holds (extended s.instance.defs a) t)) [
  | inr out ↦ out
  | inl on ↦ absurd (
      let n = length s.store.entries in
      let every = take_all n s.store.entries (omega arith) in
      let ends : EndsAt s.store 0 n = record { within = omega arith; front = every ∙ sym (ap (λ (l : ℕ). up_to l s.store.entries) (sym bottom) ∙ up_to-all s.store.level s.store.entries sound.levels) } in
      false_at_bottom s.store n sound ends (extended s.instance.defs a) (backed s h a free below) t n known (omega arith) (subst (λ (es : List Entry). IsFalseAfter s.store.first es t) (sym every) off) on)
]

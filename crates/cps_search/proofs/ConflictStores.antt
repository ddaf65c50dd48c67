-- The store of a search in which a conflict was found.
use Rattle.std.specs.List.{All, Any}
use Rattle.std.proofs.Common.{◌<◌, List, [], length, inl, inr, refl, sym, subst}
use Rattle.cps_literal.specs.declared.atom.Atom.{Atom}
use Rattle.cps_instance.specs.declared.task.Task.{Task}
use Rattle.cps_instance.specs.Tasks.{HoldAll}
use Rattle.cps_trail.specs.Trail.{Trail, IsFalseNow, IsSoundTrail}
use Rattle.cps_propagate.proofs.Listing.{IsConflict-weaker, conflict_of_all}
use Rattle.cps_conflict.specs.Conflicts.{NotFalseAtBottom}
use Rattle.cps_search.specs.Resting.{AllHold}
use Rattle.cps_search.specs.Giving.{IsGivenConflict}
use Rattle.cps_search.specs.Searches.{Search, HoldsOver, IsInConflict, IsSoundSearch}
use Rattle.cps_search.specs.Shelves.{in_force_on}
use Rattle.cps_search.proofs.ConflictLessons.{conflict_over}

-- what one task gives, or one clause in force, holds below the bound
pub given_over : (s : Search) (c : List Atom) → IsSoundSearch s → IsGivenConflict s.tasks (in_force_on s.base) s.store c → HoldsOver s.instance s.z c
given_over s c h given = elim given [
  | inl k ↦ conflict_over s s.store c h refl (IsConflict-weaker (HoldAll s.tasks) (AllHold s.tasks s.base.clauses) (λ xs all. all.tasks_hold) s.store c (conflict_of_all s.tasks s.store c k))
  | inr k ↦ subst (λ (x : List Atom). HoldsOver s.instance s.z x) (sym k.is) (h.clauses k.number [] k.within)
]

-- it is false, and its subjects exist
pub given_false : (tasks : List Task) (clauses : List (List Atom)) (s : Trail) (c : List Atom) → IsGivenConflict tasks clauses s c → All (IsFalseNow s) c × All (λ t. t.subject < length s.first) c
given_false tasks clauses s c h = elim h [
  | inl k ↦ (let all = conflict_of_all tasks s c k in (all.false_now, all.subjects))
  | inr k ↦ (k.false_now, k.subjects)
]

abbrev pub in_conflict : (s : Search) (conflict : List Atom) → IsSoundSearch s → IsSoundTrail s.store → IsGivenConflict s.tasks (in_force_on s.base) s.store conflict → Any (NotFalseAtBottom s.store) conflict → IsInConflict s
in_conflict s conflict h sound by_one bottom = record {
  sound = sound;
  given = h.given;
  conflict = conflict;
  by_one = by_one;
  holds = given_over s conflict h by_one;
  open_at_bottom = bottom;
}

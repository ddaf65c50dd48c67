-- Why no solution is left below a search's bound, and by which assumptions.
use Rattle.std.specs.Prelude.{◌≡◌, ◌⊎◌, ℕ, ℤ, List, []}
use Rattle.std.specs.List.{All}
use Rattle.cps_model.specs.declared.bound.Bound.{Bound}
use Rattle.cps_model.specs.declared.bound.Bound.TheVariants.{At, Infinite}
use Rattle.cps_literal.specs.declared.atom.Atom.{Atom}
use Rattle.cps_trail.specs.Trail.{IsFalseAfter, up_to}
use Rattle.cps_search.specs.Shelves.{in_force_on}
use Rattle.cps_search.specs.Giving.{IsGivenConflict}
use Rattle.cps_search.specs.Assumptions.{AreOnceInOrder, IsFailedAssumption, IsInCore, assumption_at}
use Rattle.cps_search.specs.Searches.{Search, IsSettled}
use Rattle.cps_search.specs.Growing.{AreBehindIn}

-- one task or one clause of a search gives a conflict that was false at the end of level 0
pub record IsConflictAtBottom (s : Search) : Type 0 where
  pub conflict : List Atom
  pub by_one : IsGivenConflict s.tasks (in_force_on s.base) s.store conflict
  pub bottom : All (λ t. IsFalseAfter s.store.first (up_to 0 s.store.entries) t) conflict

-- The core of an assumption that failed: of the model's assumptions that one, and those whose decisions are behind it;
-- each once, in the order of the model.
pub record IsAssumptionCore (s : Search) (failed : ℕ) (core : List ℤ) : Type 0 where
  pub decisions : List Atom
  pub behind : AreBehindIn s (assumption_at s.instance.model.assumptions failed) decisions
  pub just : AreOnceInOrder (IsInCore s.instance.model.assumptions failed decisions) s.instance.model.assumptions core

-- where an incumbent is known there is no core
abbrev pub IsCoreOf : Search → ℕ → Bound → List ℤ → Type 0
IsCoreOf s failed (At z) core = core ≡ []
IsCoreOf s failed Infinite core = IsAssumptionCore s failed core

-- inference came to rest, and an assumption is false
pub record FailsAssumption (s : Search) (found : List ℤ) : Type 0 where
  pub settled : IsSettled s
  pub failed : ℕ
  pub is : IsFailedAssumption s.instance.model.assumptions s.store failed
  pub core : IsCoreOf s failed s.z found

-- no solution is left below a search's bound: a conflict was false at the end of level 0, or an assumption is false
abbrev pub LeavesNone : Search → List ℤ → Type 0
LeavesNone s core = (IsConflictAtBottom s × (core ≡ [])) ⊎ FailsAssumption s core

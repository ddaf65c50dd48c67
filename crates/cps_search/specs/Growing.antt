-- What a search knows beside its turns: a sum more, the decisions behind an atom that is false, and what is false at
-- level 0.
use Rattle.std.specs.Prelude.{◌≡◌, ◌<◌, ℕ, ℤ, true, false, None, List, [], ◌∷◌, ◌++◌, length}
use Rattle.std.specs.List.{All}
use Rattle.cps_model.specs.Solutions.{objective_value, IsFree}
use Rattle.cps_literal.specs.declared.atom.Atom.{Atom}
use Rattle.cps_literal.specs.Truth.{atom_holds}
use Rattle.cps_instance.specs.declared.task.Task.{Task}
use Rattle.cps_instance.specs.Problem.{Problem, Defines, sum_task}
use Rattle.cps_instance.specs.Sums.{DefinedSum, extended}
use Rattle.cps_trail.specs.Trail.{IsFalseNow}
use Rattle.cps_port.specs.Order.{IsBelow}
use Rattle.cps_conflict.specs.Conflicts.{AreTrueReasons}
use Rattle.cps_conflict.specs.Leading.{AreBehind, IsFetched}
use Rattle.cps_search.specs.declared.end.Phase.TheVariants.{Stepping}
use Rattle.cps_search.specs.Giving.{IsReasonOfOne}
use Rattle.cps_search.specs.Resting.{no_recall}
use Rattle.cps_search.specs.Searches.{Search}

-- a search over another problem, of which the domains are the store's first ones, with one more task; the tasks were
-- never at rest there
abbrev pub grown : Search → Problem → Task → Search
grown s p task = record s {
  instance = p;
  store = record s.store { first = p.domains };
  tasks = s.tasks ++ task ∷ [];
  rested = record s.rested { tasks = None; recall = no_recall };
  phase = Stepping;
}

-- A sum was defined in the instance, the store and the tasks of a search, as one subject; nothing else changed.
pub record GrewBy (s t : Search) (sum : DefinedSum) (subject : ℕ) : Type 0 where
  pub defines : Defines s.instance t.instance sum subject
  pub is : t ≡ grown s t.instance (sum_task subject sum)

-- The decisions behind an atom that is false in a search's store: reasons lead to each of them, each of which one task
-- or one clause in force gives by itself; the atom is false wherever these reasons hold and the decisions are true, and
-- so at each free assignment below z at which all of them are.
pub record AreBehindIn (s : Search) (t : Atom) (decisions : List Atom) : Type 0 where
  pub led : AreBehind (IsFetched (IsReasonOfOne s.tasks s.base.clauses s.store) s.store)
      (AreTrueReasons (IsReasonOfOne s.tasks s.base.clauses s.store) s.store) s.store t decisions
  pub enough : (a : List ℤ) → IsFree s.instance.model a → IsBelow (objective_value s.instance.model a) s.z
      → All (λ u. atom_holds (extended s.instance.defs a) u ≡ true) decisions
      → atom_holds (extended s.instance.defs a) t ≡ false

-- each atom that is false in the store of a search is false at each free assignment below z
abbrev pub IsFalseBelow : Search → Type 0
IsFalseBelow s = (t : Atom) → t.subject < length s.store.first → IsFalseNow s.store t → (a : List ℤ)
    → IsFree s.instance.model a → IsBelow (objective_value s.instance.model a) s.z
    → atom_holds (extended s.instance.defs a) t ≡ false

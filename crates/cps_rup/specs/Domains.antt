-- What is left to subjects where each has a domain, and how a clause stands in it.
use Rattle.std.specs.Prelude.{◌≡◌, ℕ, ◌<◌, Bool, true, false, List, [], length, Any, slice_index_or}
use Rattle.cps_domain.specs.Window.{Window, contains}
use Rattle.cps_literal.specs.declared.atom.Atom.{Atom}
use Rattle.cps_unit.specs.Boxes.{Box, IsFalseIn, IsTrueIn}
use Rattle.cps_unit.specs.Propagation.{IsUnit, IsFalseClause}
use Rattle.cps_rup.specs.declared.propagation.ClauseState.{ClauseState}
use Rattle.cps_rup.specs.declared.propagation.ClauseState.TheVariants as states
use Rattle.cps_rup.specs.declared.scan.Found.{Found}
use Rattle.cps_rup.specs.declared.scan.Found.TheVariants as founds

-- a domain without values
abbrev pub no_values : Window
no_values = record { list = []; from = 0; to = 0 }

-- the box that domains are
abbrev pub box_in : List Window → Box
box_in domains s = contains (slice_index_or domains s no_values)

-- an atom is neither false nor true, whatever is left
pub record IsOpenIn (box : Box) (t : Atom) : Type 0 where
  pub not_false : IsFalseIn box t → ⊥
  pub not_true : IsTrueIn box t → ⊥

-- a clause forces an atom that is open
pub record ForcesOpen (box : Box) (clause : List Atom) (t : Atom) : Type 0 where
  pub unit : IsUnit box t clause
  pub is_open : IsOpenIn box t

-- a clause is not false, and what it forces is true already
pub record IsIdle (box : Box) (clause : List Atom) : Type 0 where
  pub not_false : IsFalseClause box clause → ⊥
  pub forced : (t : Atom) → IsUnit box t clause → IsTrueIn box t

-- how a clause stands in a box
abbrev pub HasState : Box → List Atom → ClauseState → Type 0
HasState box clause states.False = IsFalseClause box clause
HasState box clause (states.Unit t) = ForcesOpen box clause t
HasState box clause states.Idle = IsIdle box clause

-- some atom of the clause is true, whatever is left
abbrev pub HasTrueAtom : Box → List Atom → Type 0
HasTrueAtom box clause = Any (IsTrueIn box) clause

-- a clause that is not done forces an atom that is open
pub record IsForcedAt (box : Box) (clauses : List (List Atom)) (done : List Bool) (place : ℕ) (t : Atom) : Type 0 where
  pub within : place < length clauses
  pub not_done : slice_index_or done place true ≡ false
  pub forces : (d : List Atom) → ForcesOpen box (slice_index_or clauses place d) t

-- each clause that is not done is idle
abbrev pub AreIdle : Box → List (List Atom) → List Bool → Type 0
AreIdle box clauses done = (k : ℕ) (d : List Atom) → k < length clauses → slice_index_or done k true ≡ false
    → IsIdle box (slice_index_or clauses k d)

-- what a look at the clauses found that are not done
abbrev pub IsFound : Box → List (List Atom) → List Bool → Found → Type 0
IsFound box clauses done founds.Conflict = Any (IsFalseClause box) clauses
IsFound box clauses done (founds.Forced place t) = IsForcedAt box clauses done place t
IsFound box clauses done founds.Nothing = AreIdle box clauses done

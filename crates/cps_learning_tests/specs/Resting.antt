-- When a base of clauses and a store may be settled, and what they are afterwards.
use Rattle.std.specs.Prelude.{ℕ, ◌+◌, ◌≤◌, ◌≡◌, length, take}
use Rattle.std.specs.List.{All}
use Rattle.cps_trail.specs.Trail.{Trail}
use Rattle.cps_trail.specs.Notes.{AllFit, IsGivenAt, ByClauses}
use Rattle.cps_clauses.specs.Quiet.{Fits, IsQuiet}
use Rattle.cps_clauses.specs.Bases.{Base, IsBaseInStep, in_force_of}

-- a base may settle a store from an entry number on, and its clauses give each entry that has a note
pub record IsBaseReady (b : Base) (s : Trail) (from : ℕ) : Type 0 where
  pub fits : All (Fits s.first) b.clauses
  pub sizes : length b.dropped ≡ length b.clauses
  pub quiet : IsQuiet (in_force_of b) s s.level
  pub within : from ≤ length s.entries
  pub in_step : IsBaseInStep b s.first (take from s.entries)
  pub given : AllFit (IsGivenAt (ByClauses b.clauses)) s

-- all was settled
pub record IsBaseAtRest (b : Base) (s : Trail) : Type 0 where
  pub fits : All (Fits s.first) b.clauses
  pub sizes : length b.dropped ≡ length b.clauses
  pub quiet : IsQuiet (in_force_of b) s (s.level + 1)
  pub in_step : IsBaseInStep b s.first s.entries
  pub given : AllFit (IsGivenAt (ByClauses b.clauses)) s

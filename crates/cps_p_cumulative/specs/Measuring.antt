-- What spans surely demand in a store.
use Rattle.std.specs.Prelude.{ℕ, ◌<◌, ◌^◌, ℤ, pos, ◌≤ℤ◌, List}
use Rattle.cps_literal.specs.Truth.{value_at}
use Rattle.cps_instance.specs.declared.task.Span.{Span}
use Rattle.cps_trail.specs.Trail.{Trail, IsAdmitted}
use Rattle.cps_propagate.specs.Strength.{IsCovering, IsLeastNow, IsLoadOfSome}
use Rattle.cps_p_cumulative.specs.declared.part.Part.{Part}
use Rattle.cps_p_cumulative.specs.Profile.{at, height, AreParts}
use Rattle.cps_p_cumulative.specs.Running.{demand_of, demands_at, AreSome}

-- A part demands at each time what its span surely demands there: no less, and, where the demand is not negative, no
-- more than the span does at any values that are left.
pub record IsPartMeasured (s : Trail) (p : Span) (d : ℕ) (part : Part) : Type 0 where
  pub whole : (t m : ℤ) → IsCovering s t p → IsLeastNow s d m → m ≤ℤ pos (at t part)
  pub sound : (t : ℤ) (xs : List ℤ) → IsAdmitted s.first s.entries xs → pos 0 ≤ℤ value_at xs d
      → pos (at t part) ≤ℤ demand_of xs t p d
  pub ordered : part.from ≤ℤ part.to
  pub small : part.demand < 2 ^ 63

-- and so do all parts of all spans
pub record IsProfile (s : Trail) (ps : List Span) (ds : List ℕ) (parts : List Part) : Type 0 where
  pub whole : (t load : ℤ) → IsLoadOfSome s t ps ds load → load ≤ℤ pos (height t parts)
  pub sound : (t : ℤ) (xs : List ℤ) → IsAdmitted s.first s.entries xs → AreSome xs ds
      → pos (height t parts) ≤ℤ demands_at xs t ps ds
  pub good : AreParts parts

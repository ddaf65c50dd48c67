-- How far a round is, and what agrees with a store.
use Rattle.std.specs.Prelude.{◌≡◌, ◌⊎◌, ℕ, ◌+◌, ◌<◌, ◌≤◌, max, min, nat_le, ℤ, if◌then◌else◌, Bool, Option, Some, None, List, length, slice_index_or, All}
use Rattle.std.specs.List.{Any}
use Rattle.cps_literal.specs.declared.atom.Atom.{Atom}
use Rattle.cps_literal.specs.declared.atom.Op.TheVariants.{Eq}
use Rattle.cps_trail.specs.Trail.{Trail, up_to}
use Rattle.cps_branch.specs.Choice.{IsUndecided}
use Rattle.cps_search.specs.Ends.{round_conflicts}
use Rattle.cps_neighbourhood.specs.declared.aim.Aim.{Aim}
use Rattle.cps_neighbourhood.specs.declared.round.Progress.{Progress}
use Rattle.cps_neighbourhood.specs.Rounds.{IsOfRound, NoneOpen, Round}

-- the solution aimed at, if there is one
abbrev pub solution_of : Aim → Option (List ℤ)
solution_of a = if a.is_set then Some a.values.items else None

-- the round that progress is made in
abbrev pub round_of : Progress → Round
round_of r = record { decisions = r.decisions.items; learnt = r.learnt }

abbrev pub round_if : Bool → Progress → Option Round
round_if under_way r = if under_way then Some (round_of r) else None

-- a store as it was at the end of a level
abbrev pub at_end_of : Trail → ℕ → Trail
at_end_of s level = record s { entries = up_to level s.entries; level = level }

-- the level of the last assumption or decision of the round that is on the trail
abbrev pub begun : Progress → ℕ
begun r = max r.assumed r.held

-- Progress in a round agrees with a store: the first `assumed` levels began with assumptions, and those after them up
-- to `held`, if there are any, with decisions of the round; no other level did. Where there are later ones, no decision
-- of the round was open at the end of these. None before `place` is open. A round decides values.
pub record IsUnderWay (r : Progress) (s : Trail) : Type 0 where
  pub few : r.learnt < round_conflicts
  pub subjects : All (λ t. t.subject < length s.first) r.decisions.items
  pub values : All (λ t. t.op ≡ Eq) r.decisions.items
  pub within : begun r ≤ s.level
  pub above : 0 < r.held → r.assumed < r.held
  pub each : (l : ℕ) → r.assumed < l → l ≤ r.held → Any (λ e. IsOfRound r.decisions.items e × (e.level ≡ l)) s.entries
  pub between : All (λ e. IsOfRound r.decisions.items e → (r.assumed < e.level) × (e.level ≤ r.held)) s.entries
  pub settled : begun r < s.level → NoneOpen r.decisions.items (at_end_of s (begun r))
  pub passed : (j : ℕ) (d : Atom) → j < r.place → j < length r.decisions.items
      → IsUndecided s (slice_index_or r.decisions.items j d) → ⊥

-- how far it is where the search went back to a level
abbrev pub held_to : Progress → ℕ → ℕ
held_to r level = if nat_le level r.assumed then 0 else min r.held level

-- a learnt clause that sends a search back to a level ends the round
abbrev pub IsRoundEnd : Progress → ℕ → Type 0
IsRoundEnd r back = (r.learnt + 1 ≡ round_conflicts) ⊎ (back < r.held)

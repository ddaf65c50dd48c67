-- What holds of the shared state after every list of lawful events.
use Rattle.std.specs.Prelude.{◌≡◌, ℕ, ◌<◌, ◌≤◌, List, [], ◌∷◌, Contains, map, take, length, Some}
use Rattle.cps_model.specs.declared.bound.Bound.{Bound}
use Rattle.cps_model.specs.declared.bound.Bound.TheVariants.{At, Infinite}
use Rattle.cps_model.specs.declared.model.CpModel.{CpModel}
use Rattle.cps_model.specs.Start.{objective_start}
use Rattle.cps_port.specs.declared.entry.Entry.{Entry}
use Rattle.cps_port.specs.declared.event.Event.{Event}
use Rattle.cps_port.specs.declared.part.BoardPart.{BoardPart}
use Rattle.cps_port.specs.declared.part.BoundsPart.{BoundsPart}
use Rattle.cps_port.specs.Order.{BoundLe, IsNoLower, lesser, raised_above}
use Rattle.cps_port.specs.Incumbents.{IsIncumbent, IsLowerBound}
use Rattle.cps_port.specs.Entries.{most_rows, IsSoundEntry}
use Rattle.cps_port.specs.Totals.{total, times}
use Rattle.cps_port.specs.Shared.{BoardState, BoundsState, Shared, board_part, bounds_part, row_at, actor_count, after, IsLawful}

-- the least of the actors' least offers, `Infinite` without one
abbrev pub least_offer : List BoundsPart → Bound
least_offer [] = Infinite
least_offer (p ∷ ps) = lesser p.offered (least_offer ps)

-- the greatest of a bound and the actors' greatest raises
abbrev pub greatest_raise : Bound → List BoundsPart → Bound
greatest_raise start [] = start
greatest_raise start (p ∷ ps) = raised_above p.raised (greatest_raise start ps)

-- how often a row is among the rows that the actors published
abbrev pub owners : ℕ → List BoardPart → ℕ
owners row = total (λ (p : BoardPart). times (λ (e : Entry). e.row) row p.mine)

pub record IsSoundBoard (m : CpModel) (b : BoardState) : Type 0 where
  -- each entry is sound, and names its row
  pub rows : (row : ℕ) (e : Entry) → row_at b row ≡ Some e → (e.row ≡ row) × IsSoundEntry m e
  -- what an actor took are the first rows, in order
  pub taken : (i : ℕ) → map Some (board_part b i).taken ≡ take (length (board_part b i).taken) b.rows
  -- a row that is published is one actor's, once; and what an actor published is the entry of its row
  pub owned : (row : ℕ) (e : Entry) → row_at b row ≡ Some e → owners row b.parts ≡ 1
  pub mine : (i : ℕ) (e : Entry) → Contains (board_part b i).mine e → row_at b e.row ≡ Some e

pub record IsSoundBounds (m : CpModel) (s : BoundsState) : Type 0 where
  -- the upper bound is the least offer, some solution's objective
  pub upper : s.upper ≡ least_offer s.parts
  pub shown : IsIncumbent m s.upper
  -- the lower bound is the greatest raise, and no solution's objective is below it
  pub lower : s.lower ≡ greatest_raise (At (objective_start m)) s.parts
  pub floor : IsLowerBound m s.lower
  -- neither was ever better than it is
  pub saw_upper : (i : ℕ) → BoundLe s.upper (bounds_part s i).saw_upper
  pub saw_lower : (i : ℕ) → IsNoLower (bounds_part s i).saw_lower s.lower

pub record IsSoundShared (c : Shared) : Type 0 where
  pub few : length c.board.rows ≤ most_rows
  pub both : length c.bounds.parts ≡ length c.board.parts
  pub board : IsSoundBoard c.model c.board
  pub bounds : IsSoundBounds c.model c.bounds

-- events of actors, one after another
abbrev pub run : Shared → List (ℕ × Event) → Shared
run c [] = c
run c (e ∷ es) = run (after c e.0 e.1) es

-- each by one of the actors, and lawful where it comes
abbrev pub AreLawful : Shared → List (ℕ × Event) → Type 0
AreLawful c [] = Unit {0}
AreLawful c (e ∷ es) = (e.0 < actor_count c) × IsLawful c e.0 e.1 × AreLawful (after c e.0 e.1) es

-- the state is sound after every list of lawful events
abbrev pub StaysSound : Shared → Type 0
StaysSound c = (events : List (ℕ × Event)) → AreLawful c events → IsSoundShared (run c events)

-- What the events keep, from which it follows that the state is sound.
use Rattle.std.specs.Prelude.{◌≡◌, ℕ, ◌+◌, ◌<◌, ◌≤◌, length, Some, None}
use Rattle.cps_model.specs.declared.model.CpModel.{CpModel}
use Rattle.cps_model.specs.Validity.{IsValid}
use Rattle.cps_port.specs.declared.entry.Entry.{Entry}
use Rattle.cps_port.specs.declared.part.BoardPart.{BoardPart}
use Rattle.cps_port.specs.Entries.{most_rows}
use Rattle.cps_port.specs.Totals.{total, one_if}
use Rattle.cps_port.specs.Shared.{BoardState, Shared, board_part, row_at}
use Rattle.cps_port.specs.Sound.{IsSoundBoard, IsSoundBounds}

-- a row that is drawn and not published
pub record IsDrawn (b : BoardState) (row : ℕ) : Type 0 where
  pub within : row < length b.rows
  pub claimed : row < b.next
  pub closed : row_at b row ≡ None

abbrev pub full_count : BoardPart → ℕ
full_count p = one_if p.full

pub record BoardKept (m : CpModel) (b : BoardState) : Type 0 where
  pub sound : IsSoundBoard m b
  -- each actor draws at most once past the last row
  pub next : b.next ≤ length b.rows + total full_count b.parts
  pub claimed : (row : ℕ) (e : Entry) → row_at b row ≡ Some e → row < b.next
  pub drawn : (i row : ℕ) → (board_part b i).drawn ≡ Some row → IsDrawn b row
  pub apart : (i j row : ℕ) → (board_part b i).drawn ≡ Some row → (board_part b j).drawn ≡ Some row → i ≡ j

pub record IsStateKept (c : Shared) : Type 0 where
  pub valid : IsValid c.model
  pub few : length c.board.rows ≤ most_rows
  pub both : length c.bounds.parts ≡ length c.board.parts
  pub board : BoardKept c.model c.board
  pub bounds : IsSoundBounds c.model c.bounds

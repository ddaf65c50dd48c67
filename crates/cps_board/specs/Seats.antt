-- What clauses say of the board and its seats.
use Rattle.std.specs.Prelude.{◌≡◌, ℕ, ◌≤◌, length, Some}
use Rattle.cps_model.specs.declared.model.CpModel.{CpModel}
use Rattle.cps_port.specs.declared.part.BoardPart.{BoardPart}
use Rattle.cps_board.specs.declared.seats.Board.{Board}
use Rattle.cps_board.specs.declared.seats.BoardSeat.{BoardSeat}

abbrev pub model_of : Board → CpModel
model_of b = b.table.shared.key

-- how many rows a board has
abbrev pub rows_of : Board → ℕ
rows_of b = b.rows

-- what a seat knows
abbrev pub part_of : BoardSeat → BoardPart
part_of s = s.seat.me.0.part

-- how much of the table a seat has, of 2 ^ 32
abbrev pub splits_of : BoardSeat → ℕ
splits_of s = s.seat.me.0.splits

-- how often a seat drew a row, or took over by a join
abbrev pub draws_of : BoardSeat → ℕ
draws_of s = s.seat.me.0.draws

-- a seat of this board, and so of its model
abbrev pub IsBoardSeatOf : Board → BoardSeat → Type 0
IsBoardSeatOf b s = (s.seat.table_id ≡ b.table.shared.table_id) × (s.seat.me.0.model ≡ Some b.table.shared.key)
    × (length s.seat.me.0.part.taken ≤ b.rows)

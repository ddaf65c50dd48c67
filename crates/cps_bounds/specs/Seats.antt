-- What clauses say of the table and its seats.
use Rattle.std.specs.Prelude.{◌≡◌, ℕ, Some}
use Rattle.cps_model.specs.declared.model.CpModel.{CpModel}
use Rattle.cps_port.specs.declared.part.BoundsPart.{BoundsPart}
use Rattle.cps_bounds.specs.declared.seats.Bounds.{Bounds}
use Rattle.cps_bounds.specs.declared.seats.BoundsSeat.{BoundsSeat}

abbrev pub model_of : Bounds → CpModel
model_of b = b.table.shared.key

-- what a seat knows
abbrev pub part_of : BoundsSeat → BoundsPart
part_of s = s.seat.me.0.part

-- how much of the table a seat has, of 2 ^ 32
abbrev pub splits_of : BoundsSeat → ℕ
splits_of s = s.seat.me.0.splits

-- a seat of this table, and so of its model
abbrev pub IsSeatOf : Bounds → BoundsSeat → Type 0
IsSeatOf b s = (s.seat.table_id ≡ b.table.shared.table_id) × (s.seat.me.0.model ≡ Some b.table.shared.key)

-- What seats take is one list of entries: those of the rows, in order.
use Rattle.std.specs.Prelude.{◌≡◌, ℕ, ◌≤◌, length, take}
use mathlib.Core.Option.{some}
use lib.ListN.{get_elem?}
use Rattle.atomic_table.specs.Table.{State}
use Rattle.cps_model.specs.declared.model.CpModel.{CpModel}
use Rattle.cps_port.specs.declared.entry.Entry.{Entry}
use Rattle.cps_port.specs.Entries.{IsSoundEntry}
use Rattle.cps_board.specs.declared.view.View.{View}
use Rattle.cps_board.specs.Rows.{KeptRows}

-- of what two seats took, the shorter list is the beginning of the longer one, at any moment
abbrev pub TakesOneList : Type 0
TakesOneList = (m : CpModel) (s : State (Unit {0}) View) (i j : ℕ) (v w : View) → KeptRows m s
    → get_elem? s.views i ≡ some v → get_elem? s.views j ≡ some w
    → length v.part.taken ≤ length w.part.taken → take (length v.part.taken) w.part.taken ≡ v.part.taken

-- each entry that a seat took names its row, and is sound
abbrev pub TakesSoundEntries : Type 0
TakesSoundEntries = (m : CpModel) (s : State (Unit {0}) View) (i row : ℕ) (v : View) (e : Entry) → KeptRows m s
    → get_elem? s.views i ≡ some v
    → get_elem? v.part.taken row ≡ some e → (e.row ≡ row) × IsSoundEntry m e

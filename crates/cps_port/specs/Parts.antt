-- What an actor knows, and what each event makes of it.
use Rattle.std.specs.Prelude.{ℕ, true, false, if◌then◌else◌, [], ◌∷◌, ◌++◌, Some, None}
use Rattle.cps_model.specs.declared.bound.Bound.{Bound}
use Rattle.cps_model.specs.declared.bound.Bound.TheVariants.{Infinite}
use Rattle.cps_port.specs.declared.entry.Entry.{Entry}
use Rattle.cps_port.specs.declared.part.BoardPart.{BoardPart}
use Rattle.cps_port.specs.declared.part.BoundsPart.{BoundsPart}
use Rattle.cps_port.specs.declared.part.Part.{Part}
use Rattle.cps_port.specs.Order.{lesser, raised_to}

-- an actor before its first event
abbrev pub no_rows : BoardPart
no_rows = record { drawn = None; mine = []; taken = []; full = false; misses = 0 }

abbrev pub no_bounds : BoundsPart
no_bounds =
    record { saw_upper = Infinite; offered = Infinite; saw_lower = None; raised = None; upper_loads = 0; upper_last = None; lower_loads = 0; lower_last = None }

abbrev pub newcomer : Part
newcomer = record { board = no_rows; bounds = no_bounds }

-- after a draw of a row, and after a draw past the last row
abbrev pub with_row : BoardPart → ℕ → BoardPart
with_row p row = record p { drawn = Some row }

abbrev pub with_past : BoardPart → BoardPart
with_past p = record p { full = true }

-- after an entry was published in the row that was drawn
abbrev pub with_mine : BoardPart → Entry → BoardPart
with_mine p e = record p { drawn = None; mine = p.mine ++ e ∷ [] }

-- after a look that found the next entry, and after one that found its row closed
abbrev pub with_taken : BoardPart → Entry → BoardPart
with_taken p e = record p { taken = p.taken ++ e ∷ [] }

abbrev pub with_misses : BoardPart → ℕ → BoardPart
with_misses p count = record p { misses = count }

-- after a call of `share` that found no row: a full actor draws no more
abbrev pub full_now : BoardPart → BoardPart
full_now p = if p.full then p else with_past p

-- after a look at the upper bound, and at the lower one, with the count of looks
abbrev pub after_upper : BoundsPart → Bound → ℕ → BoundsPart
after_upper p seen count = record p { saw_upper = seen; upper_loads = count; upper_last = Some seen }

abbrev pub after_lower : BoundsPart → Bound → ℕ → BoundsPart
after_lower p seen count = record p { saw_lower = Some seen; lower_loads = count; lower_last = Some seen }

-- after a value was offered, and after a bound was raised, with what the bound then was
abbrev pub after_offer : BoundsPart → Bound → Bound → BoundsPart
after_offer p value seen = record p { saw_upper = seen; offered = lesser p.offered value }

abbrev pub after_raise : BoundsPart → Bound → Bound → BoundsPart
after_raise p bound seen = record p { saw_lower = Some seen; raised = raised_to p.raised bound }

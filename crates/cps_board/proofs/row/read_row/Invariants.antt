use Rattle.std.proofs.Common.{◌≡◌, ◌-◌, ◌++◌, take, length, replicate}
use mathlib.Core.Option.{some}
use lib.ListN.{get_elem?}
use Rattle.cps_port.specs.declared.entry.Entry.{Entry}
use Rattle.cps_port.specs.Entries.{blank, entry_clause}
use Rattle.cps_port.specs.Words.{bound_of}
use Rattle.cps_board.proofs.row.read_row.Given as goal

abbrev pub invariant-loop-i : goal.invariant-loop-i
invariant-loop-i l = record {
  table : l.seat.table_id ≡ l.fn.seat.table_id;
  id : l.seat.id ≡ l.fn.seat.id;
  view : l.seat.me ≡ l.fn.seat.me;
  count : (e : Entry) → get_elem? l.fn.seat.me.0.part.taken l.row ≡ some e → l.len ≡ length (entry_clause e);
  below : (e : Entry) → get_elem? l.fn.seat.me.0.part.taken l.row ≡ some e → bound_of l.below ≡ e.below;
  atoms : (e : Entry) → get_elem? l.fn.seat.me.0.part.taken l.row ≡ some e → l.atoms ≡ take l.i (entry_clause e) ++ replicate (16 - l.i) blank;
}

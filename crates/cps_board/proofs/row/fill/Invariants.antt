use Rattle.std.proofs.Common.{◌≡◌, ◌∷◌, take, length}
use Rattle.cps_port.specs.Words.{word_of}
use Rattle.cps_board.specs.Coding.{atom_words}
use Rattle.cps_board.specs.Rows.{filling}
use Rattle.cps_board.proofs.row.fill.Given as goal

abbrev pub invariant-loop-i : goal.invariant-loop-i
invariant-loop-i l = record {
  table : l.seat.table_id ≡ l.fn.seat.table_id;
  id : l.seat.id ≡ l.fn.seat.id;
  view : l.seat.me ≡ (filling l.fn.seat.me.0 (length l.clause ∷ word_of l.fn.below ∷ atom_words (take l.i l.clause)), l.fn.seat.me.1);
}

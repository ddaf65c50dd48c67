use Rattle.std.proofs.Common.{take}
use Rattle.cps_p_lookup.specs.Columns.{AreEndsOf}
use Rattle.cps_p_lookup.proofs.rows.ends.Given as goal

abbrev pub invariant-loop-row : goal.invariant-loop-row
invariant-loop-row l = AreEndsOf l.column (take l.row-index l.rows) l.rows l.low l.high

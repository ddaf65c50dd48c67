use Rattle.std.proofs.Common.{◌<◌, length}
use Rattle.cps_p_lookup.proofs.rows.narrowest.Given as goal

abbrev pub invariant-loop-column : goal.invariant-loop-column
invariant-loop-column l = l.best < length l.tuples.exprs

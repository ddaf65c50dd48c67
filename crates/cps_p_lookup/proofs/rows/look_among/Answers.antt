-- Rows of each column's ends are all that rest asks.
use Rattle.std.proofs.Common.{Ok, ap}
use Rattle.cps_p_lookup.proofs.Tables.{ends_rest}
use Rattle.cps_p_lookup.proofs.rows.look_among.Goals as goal

pub returns-then-branch-2-clause-rest : goal.returns-then-branch-2-clause-rest
returns-then-branch-2-clause-rest c = λ _ _. ends_rest c.args.store.now c.args.tuples.now.exprs c.args.tuples.now.values c.requires.some (rw (c.grid.ensures.exprs, c.grid.ensures.values) at (c.in_ok-have_end_rows.ensures (ap Ok c.if-branch-2.true)))

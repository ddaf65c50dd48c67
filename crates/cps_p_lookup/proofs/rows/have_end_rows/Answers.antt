use Rattle.std.proofs.Common.{Ok, ap}
use Rattle.cps_p_lookup.proofs.Ending.{ends_next, ends_upto}
use Rattle.cps_p_lookup.proofs.rows.have_end_rows.Goals as goal

pub loop-place-preserved : goal.loop-place-preserved
loop-place-preserved c = record {
  tested = c.in_ok-has_end_rows.ensures.tested;
  ends = ends_next c.args.store.now c.args.grid.now.exprs.now c.args.grid.now.values.now c.loop-place.place c.loop-place.invariant.ends (c.in_ok-has_end_rows.ensures.ends (ap Ok c.if-not-branch.false));
}

pub returns : goal.returns
returns c = λ _. ends_upto c.args.store.now c.args.grid.now.exprs.now c.args.grid.now.values.now c.loop-place.place c.loop-place-test.false c.loop-place.invariant.ends

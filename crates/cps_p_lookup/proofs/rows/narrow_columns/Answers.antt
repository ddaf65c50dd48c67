use Rattle.cps_p_lookup.proofs.Ending.{ends_narrowed, ends_upto, no_ends}
use Rattle.cps_p_lookup.proofs.rows.narrow_columns.Goals as goal

pub loop-place-preserved : goal.loop-place-preserved
loop-place-preserved c = record {
  given = c.in_ok-narrow_inside.ensures.given;
  ends = λ t. ends_narrowed c.args.store.now c.args.grid.now.exprs.now c.args.grid.now.values.now c.loop-place.place c.loop-place.found.items c.narrow_column.new.found.items _ c.loop-place.invariant.ends c.in_ok-narrow_column.ensures.rests c.in_ok-narrow_inside.ensures.before t;
}

pub returns-clause-ends : goal.returns-clause-ends
returns-clause-ends c = λ t. ends_upto c.args.store.now c.args.grid.now.exprs.now c.args.grid.now.values.now c.loop-place.place c.loop-place-test.false (c.loop-place.invariant.ends t)

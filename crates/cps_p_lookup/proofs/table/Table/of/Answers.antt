use Rattle.cps_p_lookup.specs.Bodies.{table_of}
use Rattle.cps_p_lookup.proofs.Tasks.{whole}
use Rattle.cps_p_lookup.proofs.table.Table.of.Goals as goal

pub returns : goal.returns
returns c = let r = c.in_ok-rule.rule in whole c.args.task.now c.in_ok-propagator.propagator c.as_slice.result.now (table_of r.tuples.exprs r.tuples.values r.negated) c.as_slice.ensures c.in_ok-rule.ensures c.in_ok-propagator.ensures

-- One round more.
use Rattle.std.proofs.Common.{◌∙◌}
use Rattle.cps_rup.proofs.Propagated.{propagated_on}
use Rattle.cps_rup.proofs.propagation.propagate.Goals as goal

pub returns-in-Some-clause-propagated : goal.returns-in-Some-clause-propagated
returns-in-Some-clause-propagated c = propagated_on c.args.clauses.now c.args.domains.now c.loop.domains c.look_at_each.new.domains c.loop.invariant.propagated c.in_ok-number.ensures.propagated

pub loop-preserved : goal.loop-preserved
loop-preserved c = record {
  first = c.in_ok-number.ensures.first ∙ c.loop.invariant.first;
  propagated = propagated_on c.args.clauses.now c.args.domains.now c.loop.domains c.look_at_each.new.domains c.loop.invariant.propagated c.in_ok-number.ensures.propagated;
}

pub returns-then-not-branch-clause-propagated : goal.returns-then-not-branch-clause-propagated
returns-then-not-branch-clause-propagated c = propagated_on c.args.clauses.now c.args.domains.now c.loop.domains c.look_at_each.new.domains c.loop.invariant.propagated c.in_ok-number.ensures.propagated

pub returns-else-not-branch-clause-propagated : goal.returns-else-not-branch-clause-propagated
returns-else-not-branch-clause-propagated c = propagated_on c.args.clauses.now c.args.domains.now c.loop.domains c.look_at_each.new.domains c.loop.invariant.propagated c.in_ok-number.ensures.propagated

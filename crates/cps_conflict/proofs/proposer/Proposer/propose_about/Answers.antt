use Rattle.std.proofs.Common.{arith}
use Rattle.cps_trail.proofs.Walks.{step_back}
use Rattle.cps_conflict.proofs.proposer.Proposer.propose_about.Goals as goal

pub loop-found-smaller : goal.loop-found-smaller
loop-found-smaller c =
    (step_back c.args.store.now.entries c.args.subject c.loop-found.found c.last_before-found.result (omega (arith, c.loop-found-test.true)) c.loop-found.invariant.within c.loop-found.invariant.here c.last_before-found.ensures).lower

pub loop-found-preserved : goal.loop-found-preserved
loop-found-preserved c =
    let step = step_back c.args.store.now.entries c.args.subject c.loop-found.found c.last_before-found.result (omega (arith, c.loop-found-test.true)) c.loop-found.invariant.within c.loop-found.invariant.here c.last_before-found.ensures in
    record { within = step.within; here = step.here }

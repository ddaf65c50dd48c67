use Rattle.std.proofs.Common.{subst, arith}
use Rattle.cps_trail.proofs.Walks.{step_back}
use Rattle.cps_conflict.specs.Leading.{MarkedSoFar}
use Rattle.cps_conflict.proofs.Walking.{Marked-none, Marked-more}
use Rattle.cps_conflict.proofs.leading.mark_about.Goals as goal

pub loop-found-init : goal.loop-found-init
loop-found-init c = Marked-none c.args.store.now c.args.subject c.args.count c.last_within-found.result c.args.marks.now c.requires.count c.last_within-found.ensures

pub loop-found-smaller : goal.loop-found-smaller
loop-found-smaller c =
    (step_back c.args.store.now.entries c.args.subject c.loop-found.found c.last_before-found.result (omega (arith, c.loop-found-test.true)) (omega (arith, c.loop-found.invariant.within, c.requires.count)) c.loop-found.invariant.here c.last_before-found.ensures).lower

pub loop-found-preserved : goal.loop-found-preserved
loop-found-preserved c =
    Marked-more c.args.store.now c.args.subject c.args.count c.loop-found.found c.last_before-found.result c.args.marks.now c.loop-found.marks c.mark.new.marks c.requires.count (omega (arith, c.loop-found-test.true)) c.loop-found.invariant
    c.last_before-found.ensures c.mark.ensures.same_length c.mark.ensures.here c.mark.ensures.others

pub returns : goal.returns
returns c = subst (λ n. MarkedSoFar c.args.store.now c.args.subject c.args.count n c.args.marks.now c.loop-found.marks) (omega (arith, c.loop-found-test.false)) c.loop-found.invariant

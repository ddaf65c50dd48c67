-- Each atom that was passed is true, and the one at which it stops is not.
use Rattle.cps_p_span.proofs.Presences.{untrue_at, true_more}
use Rattle.cps_p_span.proofs.seen.first_untrue.Goals as goal

pub loop-i-preserved : goal.loop-i-preserved
loop-i-preserved c = true_more c.args.store.now c.args.atoms.now c.loop-i.i _ c.is_true.result c.loop-i-test.true c.is_true.ensures c.args.from c.if-not-is_true.false c.loop-i.invariant

pub returns-then-not-is_true-clause-found : goal.returns-then-not-is_true-clause-found
returns-then-not-is_true-clause-found c = untrue_at c.args.store.now c.args.atoms.now c.loop-i.i _ c.is_true.result c.loop-i-test.true c.is_true.ensures c.if-not-is_true.true

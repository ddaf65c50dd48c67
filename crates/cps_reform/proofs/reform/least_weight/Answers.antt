use Rattle.std.proofs.Common.{arith}
use Rattle.cps_reform.proofs.Loops.{least-first, least-last}
use Rattle.cps_reform.proofs.reform.least_weight.Goals as goal

pub loop-term-init : goal.loop-term-init
loop-term-init c = record { is = least-first c.args.terms.now; few = omega arith }

pub returns : goal.returns
returns c = least-last c.args.terms.now c.loop-term.term-index c.loop-term.least c.loop-term-test.false c.loop-term.invariant.few c.loop-term.invariant.is

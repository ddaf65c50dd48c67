use Rattle.std.proofs.Common.{arith}
use Rattle.std.proofs.lemmas.Int.{ints}
use Rattle.cps_p_span.proofs.Timing.{says_start_up_to, keeps_start_up_to}
use Rattle.cps_p_span.proofs.edges.start_up_to.Goals as goal

pub returns-clause-says : goal.returns-clause-says
returns-clause-says c = says_start_up_to c.args.span.now c.args.time _ (let k = c.in_ok-value.ensures.is in omega (arith, ints))

pub returns-clause-now : goal.returns-clause-now
returns-clause-now c = keeps_start_up_to c.args.span.now c.args.time _ (let k = c.in_ok-value.ensures.is in omega (arith, ints))

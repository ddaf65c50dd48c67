-- The product of two numbers of 64 bits is one of 128.
use Rattle.std.proofs.Common.{rules}
use Rattle.cps_p_cumulative.proofs.Energy.{wide_times, wide_times_fits}
use Rattle.cps_p_cumulative.proofs.charge.energy.Goals as goal

pub overflow_mul-result : goal.overflow_mul-result
overflow_mul-result c = wide_times_fits c.args.ticks c.args.demand c.from.result c.from-2.result (search rules) (search rules) c.from.ensures c.from-2.ensures

pub returns : goal.returns
returns c = wide_times c.args.ticks c.args.demand c.from.result c.from-2.result (search rules) (search rules) c.from.ensures c.from-2.ensures

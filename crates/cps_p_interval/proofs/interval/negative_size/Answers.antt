use Rattle.std.proofs.Common.{arith}
use Rattle.std.proofs.lemmas.Int.{ints}
use Rattle.cps_p_interval.proofs.Opposing.{opposed_negative}
use Rattle.cps_p_interval.proofs.interval.negative_size.Goals as goal

pub returns : goal.returns
returns c = λ n places. opposed_negative n c.args.places places c.at_most-negative.result _ c.at_most-negative.ensures (omega (arith, ints))

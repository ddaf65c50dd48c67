-- The upper end is the lesser of the old one and the number.
use Rattle.std.proofs.Common.{rules, w64, FitsSigned}
use Rattle.cps_domain.proofs.Taking.{part_up_to}
use Rattle.cps_domain.proofs.scan.up_to.Goals as goal

pub returns : goal.returns
returns c =
    let low : FitsSigned w64 c.args.interval.0 = search rules in
    let high : FitsSigned w64 c.args.interval.1 = search rules in
    part_up_to c.args.interval c.args.value c.min.result low high c.ranges.value c.min.ensures.value

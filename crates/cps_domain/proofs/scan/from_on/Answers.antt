-- The lower end is the greater of the old one and the number.
use Rattle.std.proofs.Common.{rules, w64, FitsSigned}
use Rattle.cps_domain.proofs.Taking.{part_from_on}
use Rattle.cps_domain.proofs.scan.from_on.Goals as goal

pub returns : goal.returns
returns c =
    let low : FitsSigned w64 c.args.interval.0 = search rules in
    let high : FitsSigned w64 c.args.interval.1 = search rules in
    part_from_on c.args.interval c.args.value c.max.result low high c.ranges.value c.max.ensures.value

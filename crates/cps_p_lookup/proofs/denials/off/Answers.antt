-- A bound past a value keeps a subject off it.
use Rattle.std.proofs.Common.{rules, FitsSigned, w64}
use Rattle.cps_p_lookup.proofs.Meeting.{next_above, off_above}
use Rattle.cps_p_lookup.proofs.denials.off.Goals as goal

pub returns-then-value-ends : goal.returns-then-value-ends
returns-then-value-ends c =
    let b = c.args.ends.0 in
    let fb : FitsSigned w64 b = search rules in
    off_above c.args.subject c.args.value _ c.atom-then-value-ends.result c.atom-then-value-ends.ensures (next_above c.args.value b c.ranges.value fb c.if-value-ends.true)

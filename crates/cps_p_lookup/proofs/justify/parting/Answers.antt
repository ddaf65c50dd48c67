-- The one is at most a value, and the other is above it.
use Rattle.std.proofs.Common.{rules, FitsSigned, w64}
use Rattle.std.proofs.lemmas.Int.{to_z-of_z}
use Rattle.cps_p_lookup.proofs.Meeting.{next_above, next_below, part_below, part_above}
use Rattle.cps_p_lookup.proofs.justify.parting.Goals as goal

pub returns-then-ends-others : goal.returns-then-ends-others
returns-then-ends-others c =
    let a = c.args.ends.1 in
    let b = c.args.others.0 in
    let fa : FitsSigned w64 a = search rules in
    let fb : FitsSigned w64 b = search rules in
    part_below c.args.expr c.args.target a _ c.atom.result c.atom-then-ends-others.result (rw (to_z-of_z w64 a fa) at c.atom.ensures) c.atom-then-ends-others.ensures (next_above a b fa fb c.if-ends-others.true)

pub returns-then-others-ends : goal.returns-then-others-ends
returns-then-others-ends c =
    let a = c.args.others.1 in
    let b = c.args.ends.0 in
    let fa : FitsSigned w64 a = search rules in
    let fb : FitsSigned w64 b = search rules in
    part_above c.args.expr c.args.target _ b c.atom-then-others-ends.result c.atom-then-others-ends-2.result (rw (to_z-of_z w64 b fb) at c.atom-then-others-ends.ensures) c.atom-then-others-ends-2.ensures (next_below a b fa fb c.if-others-ends.true)

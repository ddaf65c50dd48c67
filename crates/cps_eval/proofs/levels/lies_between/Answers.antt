-- Both comparisons are what is said.
use Rattle.std.proofs.Common.{FitsSigned}
use Rattle.std.specs.Int.{w128}
use Rattle.std.proofs.lemmas.Int.{to_z-of_z}
use Rattle.cps_eval.proofs.Computing.{int_le_is, int_le_from}
use Rattle.cps_eval.proofs.levels.lies_between.Goals as goal

pub returns-then-least-level : goal.returns-then-least-level
returns-then-least-level c =
    let level = c.args.level in
    let least = c.args.least in
    let greatest = c.args.greatest in
    let fl : FitsSigned w128 level = c.ranges.level in
    let fs : FitsSigned w128 least = c.ranges.least in
    let fg : FitsSigned w128 greatest = c.ranges.greatest in
    let low = simp to_z-of_z at c.if-least-level.true in
    simp to_z-of_z (λ t. (int_le_is least level low, int_le_is level greatest t), λ h. int_le_from level greatest h.1)

pub returns-else-least-level : goal.returns-else-least-level
returns-else-least-level c =
    let level = c.args.level in
    let least = c.args.least in
    let fl : FitsSigned w128 level = c.ranges.level in
    let fs : FitsSigned w128 least = c.ranges.least in
    let low = simp to_z-of_z at c.if-least-level.false in
    simp to_z-of_z (λ t. cc, λ h. int_le_from least level h.0)

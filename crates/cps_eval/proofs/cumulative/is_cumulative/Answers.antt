-- The load as its changes come decides.
use Rattle.std.proofs.Common.{◌<◌, ◌^◌, ◌≤ℤ◌, pos, length, arith, rules, FitsSigned, w64}
use Rattle.std.specs.Int.{w128}
use Rattle.std.proofs.lemmas.Int.{to_z-of_z, ints}
use Rattle.cps_eval.proofs.Loads.{cumulative_by_changes}
use Rattle.cps_eval.proofs.cumulative.is_cumulative.Goals as goal

pub returns : goal.returns
returns c =
    let es = c.in_ok-changes.changes.items in
    let fc : FitsSigned w64 c.args.capacity = c.ranges.capacity in
    let ff : FitsSigned w128 c.from.result = search rules in
    let same = simp to_z-of_z at c.from.ensures in
    let wide = simp to_z-of_z at c.levels_lie_between.ensures in
    let decided = simp same at wide in
    let room : pos 0 ≤ℤ c.args.capacity = let h = c.if-capacity-lt0.false in omega (arith, ints) in
    let few : length es < 2 ^ 64 = let small = c.in_ok-changes.changes.small in let ok = c.in_ok-changes.changes.ok in omega arith in
    let law = cumulative_by_changes c.args.capacity c.args.uses.now es c.in_ok-changes.ensures.value c.in_ok-changes.ensures.near few room in
    (λ t. law.0 (decided.0 t), λ h. decided.1 (law.1 h))

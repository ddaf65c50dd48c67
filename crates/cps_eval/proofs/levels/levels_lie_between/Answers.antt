-- Sorting changes no level.
use Rattle.std.specs.Prelude.{IsPermutation, IsTrue}
use Rattle.std.proofs.Common.{◌≡◌, List, subst, sym, FitsSigned}
use Rattle.std.specs.Int.{w128}
use Rattle.std.proofs.lemmas.Int.{to_z-of_z}
use Rattle.std.proofs.lemmas.List.Sorted.{IsPermutation-sym}
use Rattle.cps_model.specs.declared.parts.Event.{Event}
use Rattle.cps_model.specs.Reservoirs.{IsReservoir}
use Rattle.cps_eval.specs.Levels.{have_small_changes}
use Rattle.cps_eval.proofs.LevelsInOrder.{reservoir_permuted, small_changes_permuted}
use Rattle.cps_eval.proofs.levels.levels_lie_between.Goals as goal

pub ordered_levels_lie_between-requires-clause-small : goal.ordered_levels_lie_between-requires-clause-small
ordered_levels_lie_between-requires-clause-small c =
    subst (λ (es : List Event). IsTrue (have_small_changes es)) (sym c.as_slice.ensures.value)
    (small_changes_permuted _ _ c.sort_by_time.ensures.moved c.requires)

pub returns : goal.returns
returns c =
    let least = c.args.least in
    let greatest = c.args.greatest in
    let xs = c.args.events.items in
    let ys = c.sort_by_time.new.events.items in
    let moved : IsPermutation xs ys = c.sort_by_time.ensures.moved in
    let same : c.as_slice.result.now ≡ ys = c.as_slice.ensures.value in
    let fl : FitsSigned w128 least = c.ranges.least in
    let fg : FitsSigned w128 greatest = c.ranges.greatest in
    let decided = simp to_z-of_z at c.ordered_levels_lie_between.ensures in (
      λ t. reservoir_permuted least greatest ys xs (IsPermutation-sym xs ys moved) (subst (IsReservoir least greatest) same (decided.0 t)),
      λ h. decided.1 (subst (IsReservoir least greatest) (sym same) (reservoir_permuted least greatest xs ys moved h)),
    )

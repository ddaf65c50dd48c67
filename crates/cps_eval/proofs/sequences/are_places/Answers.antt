-- One number more that is that of a place, or one that is not.
use Rattle.std.proofs.Common.{◌∙◌, sym, get_or, pos, arith, rules, FitsSigned, w64}
use Rattle.std.proofs.lemmas.Int.{to_z-of_z}
use Rattle.std.proofs.lemmas.List.Folds.{list_all_at, list_all_more}
use Rattle.cps_model.proofs.Tests.{both_true}
use Rattle.cps_eval.specs.Places.{is_place}
use Rattle.cps_eval.proofs.sequences.are_places.Goals as goal

pub returns-then-not-is_place : goal.returns-then-not-is_place
returns-then-not-is_place c =
    let ns = c.args.numbers.now in
    let k = c.loop-number.number-index in
    let fits : FitsSigned w64 (get_or ns k (pos 0)) = search rules in
    let is = simp to_z-of_z at c.is_place.ensures in
    sym (list_all_at (is_place c.args.count) ns k (pos 0) (omega arith) (sym is ∙ c.if-not-is_place.true))

pub loop-number-preserved : goal.loop-number-preserved
loop-number-preserved c =
    let ns = c.args.numbers.now in
    let k = c.loop-number.number-index in
    let fits : FitsSigned w64 (get_or ns k (pos 0)) = search rules in
    let is = simp to_z-of_z at c.is_place.ensures in
    list_all_more (is_place c.args.count) ns k (pos 0) (omega arith) ∙ both_true _ _ c.loop-number.invariant (sym is ∙ c.if-not-is_place.false)

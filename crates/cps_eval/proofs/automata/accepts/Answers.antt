-- What is left after all labels, in another order of the transitions.
use Rattle.std.specs.Prelude.{IsPermutation}
use Rattle.std.proofs.Common.{◌≡◌, List, sym, subst, FitsSigned, w64}
use Rattle.std.proofs.lemmas.Int.{to_z-of_z}
use Rattle.std.proofs.lemmas.List.Sorted.{IsPermutation-sym}
use Rattle.cps_model.specs.declared.parts.Transition.{Transition}
use Rattle.cps_model.specs.Sequences.{Accepts}
use Rattle.cps_eval.proofs.Stepping.{accepts_permuted}
use Rattle.cps_eval.proofs.automata.accepts.Goals as goal

pub returns : goal.returns
returns c =
    let xs = c.args.steps.items in
    let ys = c.sort_by_origin.new.steps.items in
    let finals = c.args.finals.now in
    let start = c.args.start in
    let labels = c.args.labels.now in
    let fits : FitsSigned w64 start = c.ranges.start in
    let moved : IsPermutation xs ys = c.sort_by_origin.ensures.moved in
    let same : c.as_slice.result.now ≡ ys = c.as_slice.ensures.value in
    let ends = simp to_z-of_z at c.in_ok-ends.ensures in
    let law = ends finals in
    let decided = c.some_is_final.ensures in (
      λ t. accepts_permuted ys xs finals start labels (IsPermutation-sym xs ys moved) (subst (λ (ss : List Transition). Accepts ss finals start labels) same (law.0 (decided.0 t))),
      λ h. decided.1 (law.1 (subst (λ (ss : List Transition). Accepts ss finals start labels) (sym same) (accepts_permuted xs ys finals start labels moved h))),
    )

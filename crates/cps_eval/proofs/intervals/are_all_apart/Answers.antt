-- In pairs, or by a sort.
use Rattle.std.specs.Prelude.{IsPermutation}
use Rattle.std.specs.List.{list_all}
use Rattle.std.proofs.Common.{◌≡◌, ◌∙◌, List, true, sym, ap, subst}
use Rattle.std.proofs.lemmas.List.Sorted.{IsPermutation-sym}
use Rattle.cps_model.specs.declared.parts.Run.{Run}
use Rattle.cps_model.specs.Scheduling.{are_apart, IsNoOverlap}
use Rattle.cps_model.specs.Pairs.{each_two}
use Rattle.cps_model.proofs.Pairs.{pairs_by_test}
use Rattle.cps_eval.specs.Turns.{is_forward}
use Rattle.cps_eval.proofs.Following.{no_overlap_permuted, forward_permuted}
use Rattle.cps_eval.proofs.intervals.are_all_apart.Goals as goal

pub returns-then-not-are_forward : goal.returns-then-not-are_forward
returns-then-not-are_forward c =
    let rs = c.args.runs.items in
    let is : c.are_apart_in_pairs.result ≡ each_two are_apart rs = c.are_apart_in_pairs.ensures ∙ ap (each_two are_apart) c.as_slice-then-not-are_forward.ensures.value in
    rw is (pairs_by_test are_apart rs)

pub follow_one_another-requires-clause-forward : goal.follow_one_another-requires-clause-forward
follow_one_another-requires-clause-forward c =
    let xs = c.args.runs.items in
    let forward : list_all is_forward xs ≡ true = sym (c.are_forward.ensures ∙ ap (list_all is_forward) c.as_slice.ensures.value) ∙ c.if-not-are_forward.false in
    subst (λ (rs : List Run). list_all is_forward rs ≡ true) (sym c.as_slice-2.ensures.value) (forward_permuted _ _ c.sort_runs.ensures.moved forward)

pub returns : goal.returns
returns c =
    let xs = c.args.runs.items in
    let ys = c.sort_runs.new.runs.items in
    let moved : IsPermutation xs ys = c.sort_runs.ensures.moved in
    let same : c.as_slice-2.result.now ≡ ys = c.as_slice-2.ensures.value in (
      λ t. no_overlap_permuted ys xs (IsPermutation-sym xs ys moved) (subst IsNoOverlap same (c.follow_one_another.ensures.0 t)),
      λ h. c.follow_one_another.ensures.1 (subst IsNoOverlap (sym same) (no_overlap_permuted xs ys moved h)),
    )

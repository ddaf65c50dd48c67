-- The values are those of the domain's intervals, in order.
use Rattle.std.specs.Prelude.{◌/◌}
use Rattle.std.proofs.Common.{◌-◌, arith, sym, ap, subst, ◌∙◌, List, ℤ, get_or, pos, rules, FitsSigned, w64}
use Rattle.std.proofs.lemmas.Int.{to_z-of_z}
use Rattle.cps_domain.specs.Window.{size_of}
use Rattle.cps_branch.specs.Strategies.{IsMedian, values_of}
use Rattle.cps_branch.proofs.Values.{is_median, size_some}
use Rattle.cps_branch.proofs.strategy.median.Goals as goal

pub overflow_sub-size : goal.overflow_sub-size
overflow_sub-size c = let some = size_some c.domain-domain.result.now c.intervals.ensures.domain in let size = c.size.ensures in omega arith

pub value_at_place-requires-clause-rising : goal.value_at_place-requires-clause-rising
value_at_place-requires-clause-rising c = rw c.intervals.ensures.list c.intervals.ensures.domain.rising

pub value_at_place-requires-clause-place : goal.value_at_place-requires-clause-place
value_at_place-requires-clause-place c =
    let some = size_some c.domain-domain.result.now c.intervals.ensures.domain in
    let size = c.size.ensures in
    let same = ap (λ (ps : List (ℤ × ℤ)). size_of ps) c.intervals.ensures.list in
    omega arith

pub returns : goal.returns
returns c =
    let v = c.value_at_place.result in
    let f : FitsSigned w64 v = search rules in
    subst (λ (x : ℤ). IsMedian c.args.store.now c.args.subject x) (sym (to_z-of_z w64 v f))
    (is_median c.args.store.now c.args.subject c.domain-domain.result.now c.size.result v c.intervals.ensures.domain c.domain-domain.ensures c.size.ensures
    (c.value_at_place.ensures ∙ ap (λ (ps : List (ℤ × ℤ)). get_or (values_of ps) ((c.size.result - 1) / 2) (pos 0)) c.intervals.ensures.list))

-- What the lists share is nothing, the whole list, or the new list.
use Rattle.std.proofs.Common.{arith, refl, true≢false, ap, sym, ◌∙◌, ◌≡◌, length}
use Rattle.std.proofs.lemmas.Bool.{eqb-true}
use Rattle.cps_domain.specs.Window.{intervals}
use Rattle.cps_domain.proofs.Composing.{shares_nothing, shares_all, shares_some}
use Rattle.cps_domain.proofs.domain.Domain.keep_shared.Goals as goal

pub returns-then-is_empty-clause-cuts : goal.returns-then-is_empty-clause-cuts
returns-then-is_empty-clause-cuts c =
    let z = eqb-true c.in_ok-shared.shared.len 0 (sym c.is_empty.ensures ∙ c.if-is_empty.true) in
    let n : length c.in_ok-shared.shared.items ≡ 0 = omega (arith, c.in_ok-shared.shared.ok.0, z) in
    shares_nothing c.args.self.now c.args.other.now c.intervals.result.now c.intervals-2.result.now c.in_ok-shared.shared.items c.min-least.ensures.domain c.intervals.ensures.list c.intervals-2.ensures.list c.in_ok-shared.ensures n

pub returns-then-are_same-clause-cuts : goal.returns-then-are_same-clause-cuts
returns-then-are_same-clause-cuts c =
    shares_all c.args.self.now c.args.other.now c.intervals.result.now c.intervals-2.result.now c.in_ok-shared.shared.items c.min-least.ensures.domain c.intervals.ensures.list c.intervals-2.ensures.list c.in_ok-shared.ensures
    (sym c.as_slice.ensures.value ∙ c.if-are_same.ensures.0 refl ∙ c.intervals-3.ensures.list)

pub returns-clause-cuts : goal.returns-clause-cuts
returns-clause-cuts c =
    shares_some c.args.self.now c.args.other.now _ c.intervals.result.now c.intervals-2.result.now c.in_ok-shared.shared.items c.min-least.ensures.domain c.intervals.ensures.list c.intervals-2.ensures.list c.in_ok-shared.ensures
    (λ e. true≢false (sym (c.if-are_same.ensures.1 (c.as_slice.ensures.value ∙ e ∙ sym c.intervals-3.ensures.list)))) c.drop.invariant.domain
    (ap (λ d. intervals d) c.drop.view_is ∙ c.in_ok-self-inside.ensures)

-- What the bisection says of the list, it says of the window's list.
use Rattle.std.proofs.Common.{arith, ◌-◌, ◌<◌, ◌≤ℤ◌, ◌<ℤ◌, ap, sym, subst, ◌∙◌, w64}
use Rattle.std.proofs.lemmas.Int.{to_z-of_z}
use Rattle.cps_domain.specs.Window.{Window, interval_at}
use Rattle.cps_domain.proofs.Holding.{read_list}
use Rattle.cps_domain.proofs.Taking.{bits}
use Rattle.cps_domain.proofs.domain.Domain.first_from.Goals as goal

pub first_at-requires-clause-ends : goal.first_at-requires-clause-ends
first_at-requires-clause-ends c =
    let i = c.self.inside in
    let e = read_list i.hull i.list.items c.as_slice.result.now i.list.len i.from i.to c.args.self.now (omega (arith, c.self.inside.list.ok.0)) (sym c.is_empty.ensures ∙ c.if-is_empty.false) c.as_slice.ensures.value c.self.view_is in
    let v = to_z-of_z w64 c.args.value c.ranges.value in
    let greatest' = subst (λ j. c.args.value ≤ℤ (interval_at c.args.self.now.list (j - 1)).1) (sym (ap (λ (w : Window). w.to) c.self.view_is)) c.requires in
    subst (λ z. z ≤ℤ (interval_at c.as_slice.result.now (c.self.inside.to - 1)).1) (sym v) (subst (λ ps. c.args.value ≤ℤ (interval_at ps (c.self.inside.to - 1)).1) (sym e) greatest')

pub returns-else-is_empty-clause-ends : goal.returns-else-is_empty-clause-ends
returns-else-is_empty-clause-ends c =
    let i = c.self.inside in
    let e = read_list i.hull i.list.items c.as_slice.result.now i.list.len i.from i.to c.args.self.now (omega (arith, c.self.inside.list.ok.0)) (sym c.is_empty.ensures ∙ c.if-is_empty.false) c.as_slice.ensures.value c.self.view_is in
    let v = to_z-of_z w64 c.args.value c.ranges.value in
    subst (λ z. z ≤ℤ (interval_at c.args.self.now.list c.first_at.result).1) v (subst (λ ps. bits c.args.value ≤ℤ (interval_at ps c.first_at.result).1) e c.first_at.ensures.reached)

pub returns-else-is_empty-clause-before : goal.returns-else-is_empty-clause-before
returns-else-is_empty-clause-before c = λ l.
    let i = c.self.inside in
    let e = read_list i.hull i.list.items c.as_slice.result.now i.list.len i.from i.to c.args.self.now (omega (arith, c.self.inside.list.ok.0)) (sym c.is_empty.ensures ∙ c.if-is_empty.false) c.as_slice.ensures.value c.self.view_is in
    let v = to_z-of_z w64 c.args.value c.ranges.value in
    let previous = c.first_at.ensures.before (subst (λ (w : Window). w.from < c.first_at.result) (sym c.self.view_is) l) in
    subst (λ z. (interval_at c.args.self.now.list (c.first_at.result - 1)).1 <ℤ z) v (subst (λ ps. (interval_at ps (c.first_at.result - 1)).1 <ℤ bits c.args.value) e previous)

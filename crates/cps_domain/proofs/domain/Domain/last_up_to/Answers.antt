-- What the bisection says of the list, it says of the window's list.
use Rattle.std.proofs.Common.{arith, ◌+◌, ◌<◌, ◌≤ℤ◌, ◌<ℤ◌, ap, sym, subst, ◌∙◌, w64}
use Rattle.std.proofs.lemmas.Int.{to_z-of_z}
use Rattle.cps_domain.specs.Window.{Window, interval_at}
use Rattle.cps_domain.proofs.Holding.{read_list}
use Rattle.cps_domain.proofs.Taking.{bits}
use Rattle.cps_domain.proofs.domain.Domain.last_up_to.Goals as goal

pub last_at-requires-clause-starts : goal.last_at-requires-clause-starts
last_at-requires-clause-starts c =
    let i = c.self.inside in
    let e = read_list i.hull i.list.items c.as_slice.result.now i.list.len i.from i.to c.args.self.now (omega (arith, c.self.inside.list.ok.0)) (sym c.is_empty.ensures ∙ c.if-is_empty.false) c.as_slice.ensures.value c.self.view_is in
    let v = to_z-of_z w64 c.args.value c.ranges.value in
    let least' = subst (λ j. (interval_at c.args.self.now.list j).0 ≤ℤ c.args.value) (sym (ap (λ (w : Window). w.from) c.self.view_is)) c.requires in
    subst (λ z. (interval_at c.as_slice.result.now c.self.inside.from).0 ≤ℤ z) (sym v) (subst (λ ps. (interval_at ps c.self.inside.from).0 ≤ℤ c.args.value) (sym e) least')

pub returns-else-is_empty-clause-begins : goal.returns-else-is_empty-clause-begins
returns-else-is_empty-clause-begins c =
    let i = c.self.inside in
    let e = read_list i.hull i.list.items c.as_slice.result.now i.list.len i.from i.to c.args.self.now (omega (arith, c.self.inside.list.ok.0)) (sym c.is_empty.ensures ∙ c.if-is_empty.false) c.as_slice.ensures.value c.self.view_is in
    let v = to_z-of_z w64 c.args.value c.ranges.value in
    subst (λ z. (interval_at c.args.self.now.list c.last_at.result).0 ≤ℤ z) v (subst (λ ps. (interval_at ps c.last_at.result).0 ≤ℤ bits c.args.value) e c.last_at.ensures.reached)

pub returns-else-is_empty-clause-beyond : goal.returns-else-is_empty-clause-beyond
returns-else-is_empty-clause-beyond c = λ l.
    let i = c.self.inside in
    let e = read_list i.hull i.list.items c.as_slice.result.now i.list.len i.from i.to c.args.self.now (omega (arith, c.self.inside.list.ok.0)) (sym c.is_empty.ensures ∙ c.if-is_empty.false) c.as_slice.ensures.value c.self.view_is in
    let v = to_z-of_z w64 c.args.value c.ranges.value in
    let next = c.last_at.ensures.beyond (subst (λ (w : Window). c.last_at.result + 1 < w.to) (sym c.self.view_is) l) in
    subst (λ z. z <ℤ (interval_at c.args.self.now.list (c.last_at.result + 1)).0) v (subst (λ ps. bits c.args.value <ℤ (interval_at ps (c.last_at.result + 1)).0) e next)

-- All subjects of the order are among those of the plan.
use Rattle.std.specs.Prelude.{All}
use Rattle.std.proofs.Common.{◌<◌, ◌≤◌, ℕ, length, get_or, sym, ap, subst, ◌∙◌, arith}
use Rattle.std.proofs.lemmas.List.Elements.{All-get_or, All-weaker}
use Rattle.cps_branch.specs.Strategies.{Planned, order_in, order_of}
use Rattle.cps_branch.proofs.Plans.{order_within}
use Rattle.cps_branch.proofs.plan.Plan.first_open.Goals as goal

pub first_open_place-requires-clause-subjects : goal.first_open_place-requires-clause-subjects
first_open_place-requires-clause-subjects c =
    let i = c.self.inside in
    let v = c.self.invariant in
    let n = length c.args.store.now.first in
    let same = ap (λ (p : Planned). p.subjects) c.self.view_is in
    let few : i.subjects ≤ n = omega (arith, same, c.requires.subjects) in
    subst (All (λ (k : ℕ). k < n)) (sym (c.deref.ensures.value ∙ v.2))
    (All-weaker (λ (k : ℕ). k < i.subjects) (λ (k : ℕ). k < n) (λ k l. omega (arith, l, few)) (order_of i.strategies.items i.variables) (order_within i.subjects i.variables i.strategies.items v.0 v.1))

pub returns-clause-within : goal.returns-clause-within
returns-clause-within c =
    let i = c.self.inside in
    let v = c.self.invariant in
    subst (λ (p : Planned). (k : ℕ) → k < length (order_in p) → get_or (order_in p) k 0 < p.subjects) c.self.view_is
    (λ k l. All-get_or (λ (j : ℕ). j < i.subjects) (order_of i.strategies.items i.variables) k 0 l (order_within i.subjects i.variables i.strategies.items v.0 v.1))

-- Past the strategies the first open variable is taken.
use Rattle.std.specs.Prelude.{All, Some}
use Rattle.std.proofs.Common.{◌≡◌, ◌<◌, ◌≤◌, ℕ, List, length, take, get_or, sym, ap, subst, ◌∙◌, arith}
use Rattle.std.proofs.lemmas.List.{get_or_default}
use Rattle.std.proofs.lemmas.List.Elements.{All-get_or}
use Rattle.cps_instance.specs.declared.steering.Steering.{Steering}
use Rattle.cps_branch.specs.Fixed.{IsFixed}
use Rattle.cps_branch.specs.Strategies.{ChoosesSteered, IsDone, IsOpenPlace, Planned, listed, order_in, order_of}
use Rattle.cps_branch.proofs.Plans.{chooses_variable, listed_before, listed_open, order_within}
use Rattle.cps_branch.proofs.plan.Plan.decided.Goals as goal

pub decided_at-requires-clause-before : goal.decided_at-requires-clause-before
decided_at-requires-clause-before c =
    let i = c.self.inside in
    let s = c.args.store.now in
    let place : IsOpenPlace s (order_of i.strategies.items i.variables) c.args.place = subst (λ (p : Planned). IsOpenPlace s (order_in p) c.args.place) (sym c.self.view_is) c.requires.place in
    subst (λ (gs : List Steering). All (IsFixed s) (take c.args.place (listed gs))) (sym c.deref.ensures.value) (listed_before s i.strategies.items i.variables c.args.place place)

pub decided_at-requires-clause-open_there : goal.decided_at-requires-clause-open_there
decided_at-requires-clause-open_there c =
    let i = c.self.inside in
    let s = c.args.store.now in
    let place : IsOpenPlace s (order_of i.strategies.items i.variables) c.args.place = subst (λ (p : Planned). IsOpenPlace s (order_in p) c.args.place) (sym c.self.view_is) c.requires.place in
    subst (λ (gs : List Steering). c.args.place < length (listed gs) → IsFixed s (get_or (listed gs) c.args.place 0) → ⊥) (sym c.deref.ensures.value) (listed_open s i.strategies.items i.variables c.args.place place)

pub take_least-requires-clause-subject : goal.take_least-requires-clause-subject
take_least-requires-clause-subject c =
    let i = c.self.inside in
    let v = c.self.invariant in
    let order = order_of i.strategies.items i.variables in
    let same = ap (λ (p : Planned). p.subjects) c.self.view_is in
    let l : c.args.place < length order = subst (λ (p : Planned). c.args.place < length (order_in p)) (sym c.self.view_is) c.requires.place.within in
    let at : c.index.result.now ≡ get_or order c.args.place 0 = c.index.ensures ∙ ap (λ (xs : List ℕ). get_or xs c.args.place c.index.result.now) v.2 ∙ get_or_default order c.args.place c.index.result.now 0 l in
    let low : get_or order c.args.place 0 < i.subjects = All-get_or (λ (j : ℕ). j < i.subjects) order c.args.place 0 l (order_within i.subjects i.variables i.strategies.items v.0 v.1) in
    omega (arith, at, low, same, c.requires.subjects)

pub returns-in-None-clause-choice : goal.returns-in-None-clause-choice
returns-in-None-clause-choice c =
    let i = c.self.inside in
    let v = c.self.invariant in
    let s = c.args.store.now in
    let order = order_of i.strategies.items i.variables in
    let place : IsOpenPlace s order c.args.place = subst (λ (p : Planned). IsOpenPlace s (order_in p) c.args.place) (sym c.self.view_is) c.requires.place in
    let at : c.index.result.now ≡ get_or order c.args.place 0 = c.index.ensures ∙ ap (λ (xs : List ℕ). get_or xs c.args.place c.index.result.now) v.2 ∙ get_or_default order c.args.place c.index.result.now 0 place.within in
    let past = subst (λ (gs : List Steering). (length (listed gs) ≤ c.args.place) × All (IsDone s) gs) c.deref.ensures.value c.in-None.ensures.choice in
    subst (λ (p : Planned). ChoosesSteered p.strategies p.variables s (Some c.take_least.result)) c.self.view_is
    (chooses_variable s i.strategies.items i.variables c.args.place c.take_least.result place past.0 past.1 (c.take_least.ensures.subject ∙ at) c.take_least.ensures.least)

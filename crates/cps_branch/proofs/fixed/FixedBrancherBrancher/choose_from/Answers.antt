use Rattle.std.specs.Prelude.{Some}
use Rattle.std.proofs.Common.{◌≡◌, ◌<◌, ◌≤◌, ℕ, length, get_or, refl, sym, ap, subst, ◌∙◌, arith, true≢false}
use Rattle.cps_branch.specs.Fixed.{IsFixed, AreFixed}
use Rattle.cps_branch.specs.Scope.{InOrder, AreFixedAfter}
use Rattle.cps_branch.specs.Noting.{Notes}
use Rattle.cps_branch.specs.Strategies.{ChoosesSteered, IsOpenPlace, Planned, order_in}
use Rattle.cps_branch.proofs.Plans.{all_variables}
use Rattle.cps_branch.proofs.FixedSubjects.{all_before, seen_after}
use Rattle.cps_branch.proofs.fixed.FixedBrancherBrancher.choose_from.Goals as goal
use Rattle.cps_branch.proofs.fixed.FixedBrancherBrancher.choose_from.Goals.{After-note}

-- the plan stays
plan_is : (c : After-note) → c.self.inside.plan ≡ c.args.self.now.plan
plan_is c = ap (λ (b : InOrder). b.plan) c.self.view_is ∙ c.forget.ensures.plan

high : (c : After-note) → c.first_open-place.result ≤ length (order_in c.args.self.now.plan)
high c = subst (λ (p : Planned). c.first_open-place.result ≤ length (order_in p)) (plan_is c) c.first_open-place.ensures.high

within : (c : After-note) (i : ℕ) → i < length (order_in c.args.self.now.plan) → get_or (order_in c.args.self.now.plan) i 0 < c.args.self.now.plan.subjects
within c = subst (λ (p : Planned). (i : ℕ) → i < length (order_in p) → get_or (order_in p) i 0 < p.subjects) (plan_is c) c.first_open-place.ensures.within

-- the subjects before the place are fixed
before : (c : After-note) (i : ℕ) → i < c.first_open-place.result → IsFixed c.args.store.now (get_or (order_in c.args.self.now.plan) i 0)
before c =
    let place = c.first_open-place.result in
    all_before (order_in c.args.self.now.plan) c.args.self.now.plan.subjects c.args.kept place c.self.inside.known c.args.self.now.fixed_after c.forget.new.self.fixed_after c.self.inside.fixed_after.items
    c.args.store.now c.forget.ensures.forgets c.requires.kept (sym (ap (λ (b : InOrder). b.fixed_after) c.self.view_is)) c.self.invariant.0 (λ i l. within c i (omega (arith, l, high c)))
    (subst (λ (p : Planned). (i : ℕ) → c.self.inside.known ≤ i → i < place → IsFixed c.args.store.now (get_or (order_in p) i 0)) (plan_is c) c.first_open-place.ensures.before)

open_there : (c : After-note) → c.first_open-place.result < length (order_in c.args.self.now.plan) → IsFixed c.args.store.now (get_or (order_in c.args.self.now.plan) c.first_open-place.result 0) → ⊥
open_there c =
    subst (λ (p : Planned). c.first_open-place.result < length (order_in p) → IsFixed c.args.store.now (get_or (order_in p) c.first_open-place.result 0) → ⊥) (plan_is c) c.first_open-place.ensures.open_there

count_is : (c : After-note) → c.len-count.result ≡ length (order_in c.args.self.now.plan)
count_is c = c.len-count.ensures ∙ ap (λ (p : Planned). length (order_in p)) (plan_is c)

saw : (c : After-note) → AreFixedAfter (order_in c.note.new.self.plan) c.note.new.self.plan.subjects c.note.new.self.fixed_after c.args.store.now (length c.args.store.now.entries)
saw c =
    let same : c.note.new.self.plan ≡ c.args.self.now.plan = c.note.ensures.plan ∙ c.forget.ensures.plan in
    subst (λ (p : Planned). AreFixedAfter (order_in p) p.subjects c.note.new.self.fixed_after c.args.store.now (length c.args.store.now.entries)) (sym same)
    (seen_after (order_in c.args.self.now.plan) c.args.self.now.plan.subjects c.args.kept c.first_open-place.result c.args.self.now.fixed_after c.forget.new.self.fixed_after c.note.new.self.fixed_after c.args.store.now
    c.forget.ensures.forgets (subst (λ n. Notes c.first_open-place.result n c.forget.new.self.fixed_after c.note.new.self.fixed_after) c.entries.ensures.views.same_length c.note.ensures.notes) c.requires.kept (before c))

-- where no place is open, all variables are fixed
none_open : (c : After-note) → c.first_open-place.result ≡ c.len-count.result → AreFixed c.args.store.now c.args.self.now.plan.variables
none_open c e = all_variables c.args.store.now c.args.self.now.plan.strategies c.args.self.now.plan.variables (λ i l. before c i (omega (arith, l, e, count_is c)))

below : (c : After-note) → (c.first_open-place.result ≡ c.len-count.result → ⊥) → c.first_open-place.result < length (order_in c.args.self.now.plan)
below c ne = omega (arith, ne, high c, count_is c)

open_place : (c : After-note) → (c.first_open-place.result ≡ c.len-count.result → ⊥) → IsOpenPlace c.args.store.now (order_in c.args.self.now.plan) c.first_open-place.result
open_place c ne = record { within = below c ne; before = before c; open_now = open_there c (below c ne) }

pub returns-then-place-count-clause-none : goal.returns-then-place-count-clause-none
returns-then-place-count-clause-none c =
    let m = (goal.at.returns-then-place-count-clause-none c).After-note in
    (λ _. none_open m c.if-place-count.true, λ _. refl)

pub returns-then-place-count-clause-rule : goal.returns-then-place-count-clause-rule
returns-then-place-count-clause-rule c = none_open (goal.at.returns-then-place-count-clause-rule c).After-note c.if-place-count.true

pub returns-then-place-count-clause-saw : goal.returns-then-place-count-clause-saw
returns-then-place-count-clause-saw c = saw (goal.at.returns-then-place-count-clause-saw c).After-note

pub decided-requires-clause-place : goal.decided-requires-clause-place
decided-requires-clause-place c =
    let m = (goal.at.decided-requires-clause-place c).After-note in
    let plan = ap (λ (b : InOrder). b.plan) c.self-2.view_is ∙ c.note.ensures.plan ∙ c.forget.ensures.plan in
    subst (λ (p : Planned). IsOpenPlace c.args.store.now (order_in p) c.first_open-place.result) (sym plan) (open_place m c.if-place-count.false)

pub returns-clause-none : goal.returns-clause-none
returns-clause-none c =
    let m = (goal.at.returns-clause-none c).After-note in
    let place = open_place m c.if-place-count.false in (
      (λ none. absurd (true≢false none)),
      (λ fixed. absurd (place.open_now (c.requires.sums fixed (get_or (order_in c.args.self.now.plan) c.first_open-place.result 0) (within m c.first_open-place.result place.within)))),
    )

pub returns-clause-rule : goal.returns-clause-rule
returns-clause-rule c =
    let plan = ap (λ (b : InOrder). b.plan) c.self-2.view_is ∙ c.note.ensures.plan ∙ c.forget.ensures.plan in
    subst (λ (p : Planned). ChoosesSteered p.strategies p.variables c.args.store.now (Some c.decided.result)) plan c.decided.ensures.choice

pub returns-clause-saw : goal.returns-clause-saw
returns-clause-saw c = saw (goal.at.returns-clause-saw c).After-note

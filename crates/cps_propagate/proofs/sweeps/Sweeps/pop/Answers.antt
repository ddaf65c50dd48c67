-- A number is the last of its round, or the first of the next.
use Rattle.std.specs.Prelude.{IsPermutation}
use Rattle.std.proofs.Common.{◌≡◌, ◌∙◌, ◌++◌, ◌∷◌, length, List, ℕ, [], sym, ap, subst, arith}
use Rattle.cps_propagate.proofs.Sweeping.{nothing, last_taken, first_taken, none_waited, only_next, where_none, none_left}
use Rattle.cps_propagate.proofs.sweeps.Sweeps.pop.Goals as goal

pub returns-in-Some-clause-taken : goal.returns-in-Some-clause-taken
returns-in-Some-clause-taken c =
    subst (λ (l : List ℕ). IsPermutation l (c.in-Some.number ∷ (c.pop.new.self.items ++ c.self.inside.next.items))) c.self.view_is
    (last_taken c.self.inside.sweep.items c.pop.new.self.items c.self.inside.next.items c.in-Some.number c.in-Some.ensures.items)

pub returns-clause-taken : goal.returns-clause-taken
returns-clause-taken c =
    let empty : length c.self.inside.sweep.items ≡ 0 = (let none = c.in_default.ensures.cases.0 in omega (arith, none, c.self.inside.sweep.ok.0)) in
    let drained : length c.pop.new.self.items ≡ 0 = (let none = c.in_default.ensures.cases.1 in omega (arith, none, c.pop.new.self.ok.0)) in
    let same = sym c.self.view_is ∙ only_next c.self.inside.sweep.items c.self.inside.next.items empty in
    let order = subst (λ (l : List ℕ). IsPermutation l c.put_in_order.new.numbers.items) (ap (λ (v : _). v.items) c.swap.ensures.x_after) c.put_in_order.ensures in
    let left : c.swap.new.y.items ≡ [] = ap (λ (v : _). v.items) c.swap.ensures.y_after ∙ nothing c.pop.new.self.items drained in
    first_taken c.args.self.now c.self.inside.next.items c.put_in_order.new.numbers.items c.pop-2.new.self.items c.swap.new.y.items c.pop-2.result same order c.pop-2.ensures.items left

pub returns-clause-none : goal.returns-clause-none
returns-clause-none c = λ none.
    let empty : length c.self.inside.sweep.items ≡ 0 = (let e = c.in_default.ensures.cases.0 in omega (arith, e, c.self.inside.sweep.ok.0)) in
    let over = where_none c.pop-2.result _ _ c.pop-2.ensures.cases none in
    let waited : length c.put_in_order.new.numbers.items ≡ 0 = (let e = over.0 in omega (arith, e, c.put_in_order.new.numbers.ok.0)) in
    let order = subst (λ (l : List ℕ). IsPermutation l c.put_in_order.new.numbers.items) (ap (λ (v : _). v.items) c.swap.ensures.x_after) c.put_in_order.ensures in
    none_waited c.args.self.now c.self.inside.next.items c.put_in_order.new.numbers.items (sym c.self.view_is ∙ only_next c.self.inside.sweep.items c.self.inside.next.items empty) order waited

pub returns-clause-same : goal.returns-clause-same
returns-clause-same c = λ none.
    let drained : length c.pop.new.self.items ≡ 0 = (let e = c.in_default.ensures.cases.1 in omega (arith, e, c.pop.new.self.ok.0)) in
    let over = where_none c.pop-2.result _ _ c.pop-2.ensures.cases none in
    let rest : length c.pop-2.new.self.items ≡ 0 = (let e = over.1 in omega (arith, e, c.pop-2.new.self.ok.0)) in
    let left : c.swap.new.y.items ≡ [] = ap (λ (v : _). v.items) c.swap.ensures.y_after ∙ nothing c.pop.new.self.items drained in
    none_left c.pop-2.new.self.items c.swap.new.y.items c.args.self.now rest left (returns-clause-none c none)

use Rattle.std.proofs.Common.{◌+◌, ◌<◌, Bool, List, length, get_or, refl, sym, subst, arith}
use Rattle.cps_clauses.proofs.Notes.{none_view, IsView-at, named_by, names_same, names_none}
use Rattle.cps_clauses.proofs.NamedClauses.{AreNamed, named_first, named_all, named_more, named_none}
use Rattle.cps_clauses.proofs.forget.named_clauses.Goals as goal

pub loop-view-init : goal.loop-view-init
loop-view-init c = subst (λ (marks : List Bool). AreNamed c.args.store.now 0 c.args.count marks) (sym (c.in_ok-named.ensures.items_if_clones_equal (λ y e. e))) (named_first c.args.store.now c.args.count)

pub loop-view-preserved : goal.loop-view-preserved
loop-view-preserved c =
    let k = c.loop-view.view-index in
    let here : c.loop-view.view-index < length c.args.store.now.entries = omega (arith, c.loop-view-test.true, c.entries-view-items.ensures.views.same_length) in
    let view : IsView-at c.args.store.now c.loop-view.view-index (get_or c.entries-view-items.result.now c.loop-view.view-index none_view) = λ e. c.entries-view-items.ensures.views.each c.loop-view.view-index e none_view here in
    subst (λ (marks : List Bool). AreNamed c.args.store.now (c.loop-view.view-index + 1) c.args.count marks) (sym c.mark.ensures)
    (named_more c.args.store.now c.loop-view.view-index c.args.count c.in-Some.number c.loop-view.named.items here
    (named_by c.args.store.now c.loop-view.view-index c.in-Some.number _ view c.in-Some.ensures.some)
    (λ m names. names_same c.args.store.now c.loop-view.view-index c.in-Some.number m _ view c.in-Some.ensures.some names) c.loop-view.invariant)

pub loop-view-preserved-in_default : goal.loop-view-preserved-in_default
loop-view-preserved-in_default c =
    let here : c.loop-view.view-index < length c.args.store.now.entries = omega (arith, c.loop-view-test.true, c.entries-view-items.ensures.views.same_length) in
    let view : IsView-at c.args.store.now c.loop-view.view-index (get_or c.entries-view-items.result.now c.loop-view.view-index none_view) = λ e. c.entries-view-items.ensures.views.each c.loop-view.view-index e none_view here in
    named_none c.args.store.now c.loop-view.view-index c.args.count c.loop-view.named.items (λ m names. names_none c.args.store.now c.loop-view.view-index m _ view (c.in_default.ensures.none refl) names) c.loop-view.invariant

pub returns-clause-size : goal.returns-clause-size
returns-clause-size c = c.loop-view.invariant.size

pub returns-clause-named : goal.returns-clause-named
returns-clause-named c = named_all c.args.store.now c.loop-view.view-index c.args.count c.loop-view.named.items (omega (arith, c.loop-view-test.false, c.entries-view-items.ensures.views.same_length)) c.loop-view.invariant

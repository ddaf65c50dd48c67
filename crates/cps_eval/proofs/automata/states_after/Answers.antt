-- One state more, and all of them.
use Rattle.std.proofs.Common.{List, ℤ, get_or, pos, rules, subst, FitsSigned, w64}
use Rattle.std.proofs.lemmas.Int.{to_z-of_z}
use Rattle.std.proofs.lemmas.List.{take_all}
use Rattle.cps_eval.proofs.Stepping.{AreAfter, after_more}
use Rattle.cps_eval.proofs.automata.states_after.Goals as goal

pub loop-state-preserved : goal.loop-state-preserved
loop-state-preserved c =
    let states = c.args.states.now in
    let k = c.loop-state.state-index in
    let fits : FitsSigned w64 (get_or states k (pos 0)) = search rules in
    let this = simp to_z-of_z at c.steps_from.ensures in
    rw c.in_ok-add_heads.ensures (after_more c.args.steps.now _ states k c.loop-state.after.items _ c.loop-state-test.true c.loop-state.invariant this)

pub returns : goal.returns
returns c =
    let steps = c.args.steps.now in
    let label = c.args.label in
    let states = c.args.states.now in
    let fits : FitsSigned w64 label = c.ranges.label in
    let so_far = simp to_z-of_z at c.loop-state.invariant in
    let all : AreAfter steps label states c.loop-state.after.items = subst (λ (xs : List ℤ). AreAfter steps label xs c.loop-state.after.items) (take_all c.loop-state.state-index states c.loop-state-test.false) so_far in
    λ next. (λ h. c.make_distinct.ensures.kept next ((all next).0 h), λ h. (all next).1 (c.make_distinct.ensures.added_none next h))

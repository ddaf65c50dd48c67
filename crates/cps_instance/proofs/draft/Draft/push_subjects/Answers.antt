-- One more expression has its subject.
use Rattle.std.proofs.Common.{◌≡◌, ◌+◌, ◌<◌, List, [], ◌∷◌, ◌++◌, length, take, sym, ap, subst, ◌∙◌, arith}
use Rattle.std.proofs.lemmas.List.{take_more, take_all, length-take-le}
use Rattle.std.proofs.lemmas.List.Elements.{All-get_or}
use Rattle.cps_model.specs.declared.model.CpModel.{CpModel}
use Rattle.cps_model.specs.declared.model.LinearExpr.{LinearExpr}
use Rattle.cps_instance.specs.Strategies.{KeepsRules, NumbersExpressions}
use Rattle.cps_instance.proofs.Drafting.{numbers_none, numbers_both, numbers_room}
use Rattle.cps_instance.proofs.draft.Draft.push_subjects.Goals as goal

pub loop-expr-init : goal.loop-expr-init
loop-expr-init c = numbers_none c.args.self.now c.args.subjects.now.items c.requires.begun

pub push_subject-requires-clause-rules : goal.push_subject-requires-clause-rules
push_subject-requires-clause-rules c =
    let e = c.expr-item.result in
    let l : c.loop-expr.expr-index < length c.args.exprs.now = omega arith in
    let at = All-get_or (KeepsRules c.args.self.now.model.variables) c.args.exprs.now c.loop-expr.expr-index e l c.requires.rules in
    let here = subst (λ (x : LinearExpr). KeepsRules c.args.self.now.model.variables x) (sym c.expr-item.is) at in
    subst (λ (m : CpModel). KeepsRules m.variables e) (sym c.loop-expr.invariant.defines.model) here

pub push_subject-requires-clause-room : goal.push_subject-requires-clause-room
push_subject-requires-clause-room c =
    let k = c.loop-expr.expr-index in
    let l : k < length c.args.exprs.now = omega arith in
    let most = numbers_room c.args.self.now c.loop-expr.self (take k c.args.exprs.now) c.args.subjects.now.items c.loop-expr.subjects.items c.requires.begun c.loop-expr.invariant in
    let long = length-take-le k c.args.exprs.now (omega arith) in
    let room = c.requires.room in
    omega arith

pub loop-expr-preserved : goal.loop-expr-preserved
loop-expr-preserved c =
    let es = c.args.exprs.now in
    let k = c.loop-expr.expr-index in
    let e = c.expr-item.result in
    let l : k < length es = omega arith in
    let longer : take (k + 1) es ≡ take k es ++ e ∷ [] = take_more es k e l ∙ ap (λ u. take k es ++ u ∷ []) (sym c.expr-item.is) in
    let p = c.args.self.now in
    let r = c.push_subject.new.self in
    let js = c.push_subject.new.subjects.items in
    subst (λ (xs : List LinearExpr). NumbersExpressions p r xs c.args.subjects.now.items js) (sym longer)
    (numbers_both p c.loop-expr.self r (take k es) (e ∷ []) c.args.subjects.now.items c.loop-expr.subjects.items js c.loop-expr.invariant c.in_ok-push_subject.ensures)

pub returns : goal.returns
returns c =
    let all = take_all c.loop-expr.expr-index c.args.exprs.now (omega arith) in
    subst (λ (es : List LinearExpr). NumbersExpressions c.args.self.now c.loop-expr.self es c.args.subjects.now.items c.loop-expr.subjects.items) all c.loop-expr.invariant

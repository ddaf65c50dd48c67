-- Those that are written out come first, and the references behind them.
use Rattle.std.specs.Prelude.{All}
use Rattle.std.proofs.Common.{◌≡◌, ◌+◌, ◌≤◌, ℤ, List, ◌++◌, map, length, sym, ap, subst, arith}
use Rattle.std.proofs.Math.ListN.{length-append}
use Rattle.std.proofs.lemmas.List.{length-map}
use Rattle.std.proofs.lemmas.Result.{on_ok_weaker}
use Rattle.cps_model.specs.declared.model.LinearExpr.{LinearExpr}
use Rattle.cps_model.specs.Values.{reference_expression}
use Rattle.cps_instance.specs.Strategies.{KeepsRules, NumbersExpressions}
use Rattle.cps_instance.proofs.Agreeing.{All-append_left, All-append_right}
use Rattle.cps_instance.proofs.Drafting.{numbers_rules, numbers_room, numbers_both}
use Rattle.cps_instance.proofs.draft.Draft.push_all.Goals as goal

pub push_subjects-requires-clause-rules : goal.push_subjects-requires-clause-rules
push_subjects-requires-clause-rules c =
    let P = KeepsRules c.args.self.now.model.variables in
    let es = c.parts.result.0.now in
    let rs = c.parts.result.1.now in
    All-append_left P es (map reference_expression rs) (subst (λ (xs : List LinearExpr). All P xs) c.parts.ensures c.requires.rules)

pub push_subjects-requires-clause-room : goal.push_subjects-requires-clause-room
push_subjects-requires-clause-room c =
    let es = c.parts.result.0.now in
    let rs = c.parts.result.1.now in
    let all = ap (λ (xs : List LinearExpr). length xs) c.parts.ensures in
    let both = length-append es (map reference_expression rs) in
    let room = c.requires.room in
    omega arith

pub push_references-requires-clause-rules : goal.push_references-requires-clause-rules
push_references-requires-clause-rules c =
    let P = KeepsRules c.args.self.now.model.variables in
    let es = c.parts.result.0.now in
    let rs = c.parts.result.1.now in
    let rest = All-append_right P es (map reference_expression rs) (subst (λ (xs : List LinearExpr). All P xs) c.parts.ensures c.requires.rules) in
    numbers_rules c.args.self.now c.push_subjects.new.self es (map reference_expression rs) c.args.subjects.now.items c.push_subjects.new.subjects.items c.in_ok-push_subjects.ensures rest

pub push_references-requires-clause-room : goal.push_references-requires-clause-room
push_references-requires-clause-room c =
    let es = c.parts.result.0.now in
    let rs = c.parts.result.1.now in
    let most = numbers_room c.args.self.now c.push_subjects.new.self es c.args.subjects.now.items c.push_subjects.new.subjects.items c.requires.begun c.in_ok-push_subjects.ensures in
    let all = ap (λ (xs : List LinearExpr). length xs) c.parts.ensures in
    let both = length-append es (map reference_expression rs) in
    let mapped = length-map rs reference_expression in
    let room = c.requires.room in
    omega arith

pub returns : goal.returns
returns c =
    let p = c.args.self.now in
    let es = c.parts.result.0.now in
    let rs = c.parts.result.1.now in
    on_ok_weaker c.push_references.result
    (λ h. subst (λ (xs : List LinearExpr). NumbersExpressions p c.push_references.new.self xs c.args.subjects.now.items c.push_references.new.subjects.items) (sym c.parts.ensures)
    (numbers_both p c.push_subjects.new.self c.push_references.new.self es (map reference_expression rs) c.args.subjects.now.items c.push_subjects.new.subjects.items c.push_references.new.subjects.items c.in_ok-push_subjects.ensures h))
    c.push_references.ensures

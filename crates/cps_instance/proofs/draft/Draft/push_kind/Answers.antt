-- The expressions of each kind.
use Rattle.std.specs.Prelude.{All}
use Rattle.std.proofs.Common.{◌≡◌, ℤ, List, [], ◌∷◌, ◌++◌, map, length, sym, ap, subst, ◌∙◌, inl, inr, arith}
use Rattle.std.proofs.Math.ListN.{length-append}
use Rattle.std.proofs.lemmas.List.{length-map}
use Rattle.std.proofs.lemmas.Result.{on_ok_weaker}
use Rattle.std.proofs.lemmas.List.Elements.{All-tail}
use Rattle.cps_model.specs.declared.model.LinearExpr.{LinearExpr}
use Rattle.cps_instance.specs.Posting.{expressions_of}
use Rattle.cps_model.specs.Values.{reference_expression}
use Rattle.cps_instance.specs.Strategies.{KeepsRules, NumbersExpressions}
use Rattle.cps_instance.proofs.Agreeing.{All-append_left, All-append_right}
use Rattle.cps_instance.proofs.Drafting.{numbers_rules, numbers_room, numbers_both}
use Rattle.cps_instance.proofs.draft.Draft.push_kind.Goals as goal

pub push_both-requires-clause-rules : goal.push_both-requires-clause-rules
push_both-requires-clause-rules c =
    let P = KeepsRules c.args.self.now.model.variables in
    let a = c.in-Element in
    let all = subst (λ (xs : List LinearExpr). All P xs) (ap expressions_of a.is) c.requires.rules in
    subst (λ (xs : List LinearExpr). All P (a.index ∷ xs)) (sym c.from_ref.ensures.value) (All-append_left P (a.index ∷ a.target ∷ []) a.exprs all)

pub push_both-requires-clause-room : goal.push_both-requires-clause-room
push_both-requires-clause-room c =
    let all = ap (λ (xs : List LinearExpr). length xs) (ap expressions_of c.in-Element.is) in
    let one = ap (λ (xs : List LinearExpr). length xs) c.from_ref.ensures.value in
    let room = c.requires.room in
    omega arith

pub push_all-requires-clause-rules : goal.push_all-requires-clause-rules
push_all-requires-clause-rules c =
    let p = c.args.self.now in
    let P = KeepsRules p.model.variables in
    let a = c.in-Element in
    let all = subst (λ (xs : List LinearExpr). All P xs) (ap expressions_of a.is) c.requires.rules in
    numbers_rules p c.push_both.new.self (a.index ∷ c.from_ref.result.now) a.exprs c.args.subjects.now.items c.push_both.new.subjects.items c.in_ok-push_both-in-Element.ensures (All-append_right P (a.index ∷ a.target ∷ []) a.exprs all)

pub push_all-requires-clause-room : goal.push_all-requires-clause-room
push_all-requires-clause-room c =
    let a = c.in-Element in
    let most = numbers_room c.args.self.now c.push_both.new.self (a.index ∷ c.from_ref.result.now) c.args.subjects.now.items c.push_both.new.subjects.items c.requires.begun c.in_ok-push_both-in-Element.ensures in
    let all = ap (λ (xs : List LinearExpr). length xs) (ap expressions_of a.is) in
    let one = ap (λ (xs : List LinearExpr). length xs) c.from_ref.ensures.value in
    let room = c.requires.room in
    omega arith

pub push_both-requires-in-Interval-clause-rules : goal.push_both-requires-in-Interval-clause-rules
push_both-requires-in-Interval-clause-rules c =
    let vs = c.args.self.now.model.variables in
    let a = c.in-Interval in
    let es : expressions_of c.args.kind.now ≡ a.start ∷ a.end ∷ c.from_ref-in-Interval.result.now = ap expressions_of a.is ∙ ap (λ (xs : List LinearExpr). a.start ∷ a.end ∷ xs) (sym c.from_ref-in-Interval.ensures.value) in
    let rest = All-tail (KeepsRules vs) a.start (a.end ∷ c.from_ref-in-Interval.result.now) (subst (λ (xs : List LinearExpr). All (KeepsRules vs) xs) es c.requires.rules) in
    numbers_rules c.args.self.now c.push_subject.new.self (a.start ∷ []) (a.end ∷ c.from_ref-in-Interval.result.now) c.args.subjects.now.items c.push_subject.new.subjects.items c.in_ok-push_subject-in-Interval.ensures rest

pub push_both-requires-in-Cumulative-clause-rules : goal.push_both-requires-in-Cumulative-clause-rules
push_both-requires-in-Cumulative-clause-rules c =
    let a = c.in-Cumulative in
    subst (λ (xs : List LinearExpr). All (KeepsRules c.args.self.now.model.variables) xs) (ap expressions_of a.is ∙ ap (λ (xs : List LinearExpr). a.capacity ∷ xs) (sym c.as_slice-in-Cumulative.ensures)) c.requires.rules

pub push_references-requires-clause-rules : goal.push_references-requires-clause-rules
push_references-requires-clause-rules c =
    let vs = c.args.self.now.model.variables in
    let a = c.in-Inverse in
    let es : expressions_of c.args.kind.now ≡ map reference_expression c.as_slice-in-Inverse.result.now ++ map reference_expression a.inverse =
    ap expressions_of a.is ∙ ap (λ (rs : List ℤ). map reference_expression rs ++ map reference_expression a.inverse) (sym c.as_slice-in-Inverse.ensures) in
    All-append_left (KeepsRules vs) (map reference_expression c.as_slice-in-Inverse.result.now) (map reference_expression a.inverse) (subst (λ (xs : List LinearExpr). All (KeepsRules vs) xs) es c.requires.rules)

pub push_references-requires-in-Inverse-clause-rules : goal.push_references-requires-in-Inverse-clause-rules
push_references-requires-in-Inverse-clause-rules c =
    let vs = c.args.self.now.model.variables in
    let a = c.in-Inverse in
    let es : expressions_of c.args.kind.now ≡ map reference_expression a.direct ++ map reference_expression c.as_slice-in-Inverse-2.result.now =
    ap expressions_of a.is ∙ ap (λ (rs : List ℤ). map reference_expression a.direct ++ map reference_expression rs) (sym c.as_slice-in-Inverse-2.ensures) in
    let rest = All-append_right (KeepsRules vs) (map reference_expression a.direct) (map reference_expression c.as_slice-in-Inverse-2.result.now) (subst (λ (xs : List LinearExpr). All (KeepsRules vs) xs) es c.requires.rules) in
    numbers_rules c.args.self.now c.push_references.new.self (map reference_expression c.as_slice-in-Inverse.result.now) (map reference_expression c.as_slice-in-Inverse-2.result.now) c.args.subjects.now.items c.push_references.new.subjects.items
    c.in_ok-push_references-in-Inverse.ensures rest

pub push_references-requires-in-Inverse-clause-room : goal.push_references-requires-in-Inverse-clause-room
push_references-requires-in-Inverse-clause-room c =
    let a = c.in-Inverse in
    let most = numbers_room c.args.self.now c.push_references.new.self (map reference_expression c.as_slice-in-Inverse.result.now) c.args.subjects.now.items c.push_references.new.subjects.items c.requires.begun c.in_ok-push_references-in-Inverse.ensures in
    let all = ap (λ (xs : List LinearExpr). length xs) (ap expressions_of a.is) in
    let both = length-append (map reference_expression a.direct) (map reference_expression a.inverse) in
    let first = length-map a.direct reference_expression in
    let second = length-map a.inverse reference_expression in
    let mapped = length-map c.as_slice-in-Inverse.result.now reference_expression in
    let direct = ap (λ (rs : List ℤ). length rs) c.as_slice-in-Inverse.ensures in
    let inverse = ap (λ (rs : List ℤ). length rs) c.as_slice-in-Inverse-2.ensures in
    let room = c.requires.room in
    omega arith

pub push_subjects-requires-in-Reservoir-clause-rules : goal.push_subjects-requires-in-Reservoir-clause-rules
push_subjects-requires-in-Reservoir-clause-rules c =
    let vs = c.args.self.now.model.variables in
    let a = c.in-Reservoir in
    let es : expressions_of c.args.kind.now ≡ c.as_slice-in-Reservoir.result.now ++ a.changes = ap expressions_of a.is ∙ ap (λ (xs : List LinearExpr). xs ++ a.changes) (sym c.as_slice-in-Reservoir.ensures) in
    All-append_left (KeepsRules vs) c.as_slice-in-Reservoir.result.now a.changes (subst (λ (xs : List LinearExpr). All (KeepsRules vs) xs) es c.requires.rules)

pub push_subjects-requires-in-Reservoir-2-clause-rules : goal.push_subjects-requires-in-Reservoir-2-clause-rules
push_subjects-requires-in-Reservoir-2-clause-rules c =
    let vs = c.args.self.now.model.variables in
    let a = c.in-Reservoir in
    let es : expressions_of c.args.kind.now ≡ a.times ++ c.as_slice-in-Reservoir-2.result.now = ap expressions_of a.is ∙ ap (λ (xs : List LinearExpr). a.times ++ xs) (sym c.as_slice-in-Reservoir-2.ensures) in
    let rest = All-append_right (KeepsRules vs) a.times c.as_slice-in-Reservoir-2.result.now (subst (λ (xs : List LinearExpr). All (KeepsRules vs) xs) es c.requires.rules) in
    numbers_rules c.args.self.now c.push_subjects-in-Reservoir.new.self c.as_slice-in-Reservoir.result.now c.as_slice-in-Reservoir-2.result.now c.args.subjects.now.items c.push_subjects-in-Reservoir.new.subjects.items c.in_ok-push_subjects-in-Reservoir.ensures rest

pub push_subjects-requires-in-Reservoir-2-clause-room : goal.push_subjects-requires-in-Reservoir-2-clause-room
push_subjects-requires-in-Reservoir-2-clause-room c =
    let a = c.in-Reservoir in
    let most = numbers_room c.args.self.now c.push_subjects-in-Reservoir.new.self c.as_slice-in-Reservoir.result.now c.args.subjects.now.items c.push_subjects-in-Reservoir.new.subjects.items c.requires.begun c.in_ok-push_subjects-in-Reservoir.ensures in
    let all = ap (λ (xs : List LinearExpr). length xs) (ap expressions_of a.is) in
    let both = length-append a.times a.changes in
    let times = ap (λ (xs : List LinearExpr). length xs) c.as_slice-in-Reservoir.ensures in
    let changes = ap (λ (xs : List LinearExpr). length xs) c.as_slice-in-Reservoir-2.ensures in
    let room = c.requires.room in
    omega arith

pub push_both-requires-in-IntDiv-clause-rules : goal.push_both-requires-in-IntDiv-clause-rules
push_both-requires-in-IntDiv-clause-rules c =
    let a = c.in-IntDiv in
    let es : expressions_of c.args.kind.now ≡ a.target ∷ a.exprs =
    elim a.is [ inl e ↦ ap expressions_of e | inr r ↦ elim r [ inl e ↦ ap expressions_of e | inr s ↦ elim s [ inl e ↦ ap expressions_of e | inr e ↦ ap expressions_of e ] ] ] in
    subst (λ (xs : List LinearExpr). All (KeepsRules c.args.self.now.model.variables) xs) (es ∙ ap (λ (xs : List LinearExpr). a.target ∷ xs) (sym c.as_slice-in-IntDiv.ensures)) c.requires.rules

pub returns-in_ok-push_both-in-Element : goal.returns-in_ok-push_both-in-Element
returns-in_ok-push_both-in-Element c =
    let p = c.args.self.now in
    let a = c.in-Element in
    let es : (a.index ∷ c.from_ref.result.now) ++ a.exprs ≡ expressions_of c.args.kind.now = ap (λ (xs : List LinearExpr). a.index ∷ (xs ++ a.exprs)) c.from_ref.ensures.value ∙ sym (ap expressions_of a.is) in
    on_ok_weaker c.push_all.result
    (λ h. subst (λ (xs : List LinearExpr). NumbersExpressions p c.push_all.new.self xs c.args.subjects.now.items c.push_all.new.subjects.items) es
    (numbers_both p c.push_both.new.self c.push_all.new.self (a.index ∷ c.from_ref.result.now) a.exprs c.args.subjects.now.items c.push_both.new.subjects.items c.push_all.new.subjects.items c.in_ok-push_both-in-Element.ensures h))
    c.push_all.ensures

pub returns-in_ok-push_subject-in-Interval : goal.returns-in_ok-push_subject-in-Interval
returns-in_ok-push_subject-in-Interval c =
    let p = c.args.self.now in
    let a = c.in-Interval in
    let es : (a.start ∷ []) ++ (a.end ∷ c.from_ref-in-Interval.result.now) ≡ expressions_of c.args.kind.now = sym (ap expressions_of a.is ∙ ap (λ (xs : List LinearExpr). a.start ∷ a.end ∷ xs) (sym c.from_ref-in-Interval.ensures.value)) in
    on_ok_weaker c.push_both-in-Interval.result
    (λ h. subst (λ (xs : List LinearExpr). NumbersExpressions p c.push_both-in-Interval.new.self xs c.args.subjects.now.items c.push_both-in-Interval.new.subjects.items) es
    (numbers_both p c.push_subject.new.self c.push_both-in-Interval.new.self (a.start ∷ []) (a.end ∷ c.from_ref-in-Interval.result.now) c.args.subjects.now.items c.push_subject.new.subjects.items c.push_both-in-Interval.new.subjects.items
    c.in_ok-push_subject-in-Interval.ensures h))
    c.push_both-in-Interval.ensures

pub returns-in_ok-push_references-in-Inverse : goal.returns-in_ok-push_references-in-Inverse
returns-in_ok-push_references-in-Inverse c =
    let p = c.args.self.now in
    let a = c.in-Inverse in
    let front = c.as_slice-in-Inverse.result.now in
    let back = c.as_slice-in-Inverse-2.result.now in
    let es : map reference_expression front ++ map reference_expression back ≡ expressions_of c.args.kind.now =
    ap (λ (rs : List ℤ). map reference_expression rs ++ map reference_expression back) c.as_slice-in-Inverse.ensures
    ∙ ap (λ (rs : List ℤ). map reference_expression a.direct ++ map reference_expression rs) c.as_slice-in-Inverse-2.ensures
    ∙ sym (ap expressions_of a.is) in
    on_ok_weaker c.push_references-in-Inverse.result
    (λ h. subst (λ (xs : List LinearExpr). NumbersExpressions p c.push_references-in-Inverse.new.self xs c.args.subjects.now.items c.push_references-in-Inverse.new.subjects.items) es
    (numbers_both p c.push_references.new.self c.push_references-in-Inverse.new.self (map reference_expression front) (map reference_expression back) c.args.subjects.now.items c.push_references.new.subjects.items
    c.push_references-in-Inverse.new.subjects.items c.in_ok-push_references-in-Inverse.ensures h))
    c.push_references-in-Inverse.ensures

pub returns-in_ok-push_subjects-in-Reservoir : goal.returns-in_ok-push_subjects-in-Reservoir
returns-in_ok-push_subjects-in-Reservoir c =
    let p = c.args.self.now in
    let a = c.in-Reservoir in
    let front = c.as_slice-in-Reservoir.result.now in
    let back = c.as_slice-in-Reservoir-2.result.now in
    let es : front ++ back ≡ expressions_of c.args.kind.now =
    ap (λ (xs : List LinearExpr). xs ++ back) c.as_slice-in-Reservoir.ensures ∙ ap (λ (xs : List LinearExpr). a.times ++ xs) c.as_slice-in-Reservoir-2.ensures ∙ sym (ap expressions_of a.is) in
    on_ok_weaker c.push_subjects-in-Reservoir-2.result
    (λ h. subst (λ (xs : List LinearExpr). NumbersExpressions p c.push_subjects-in-Reservoir-2.new.self xs c.args.subjects.now.items c.push_subjects-in-Reservoir-2.new.subjects.items) es
    (numbers_both p c.push_subjects-in-Reservoir.new.self c.push_subjects-in-Reservoir-2.new.self front back c.args.subjects.now.items c.push_subjects-in-Reservoir.new.subjects.items c.push_subjects-in-Reservoir-2.new.subjects.items
    c.in_ok-push_subjects-in-Reservoir.ensures h))
    c.push_subjects-in-Reservoir-2.ensures

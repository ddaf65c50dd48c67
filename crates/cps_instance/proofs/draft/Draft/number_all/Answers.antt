-- One more constraint has the subjects of its expressions.
use Rattle.std.specs.Prelude.{All}
use Rattle.std.proofs.Common.{◌≡◌, ℕ, ◌+◌, ◌<◌, List, [], ◌∷◌, ◌++◌, length, take, sym, ap, subst, ◌∙◌, arith}
use Rattle.std.proofs.lemmas.List.{take_more, take_all}
use Rattle.std.proofs.lemmas.List.Sums.{sum_by-drop_more}
use Rattle.cps_model.specs.declared.model.CpModel.{CpModel}
use Rattle.cps_model.specs.declared.constraint.Constraint.{Constraint}
use Rattle.cps_model.specs.Validity.{constraint_entries}
use Rattle.cps_instance.specs.Problem.{next_subject}
use Rattle.cps_instance.specs.Posting.{expressions_of, subject_lists}
use Rattle.cps_instance.specs.Strategies.{constraint_sums, KeepsRules, DefinesAll}
use Rattle.cps_instance.proofs.Drafting.{Numbered, numbered_none, numbered_more, numbers_room, constraint_most, constraint_rules}
use Rattle.cps_instance.proofs.draft.Draft.number_all.Goals as goal

pub loop-constraint-init : goal.loop-constraint-init
loop-constraint-init c = record {
  numbered = subst (λ (ls : List (List ℕ)). Numbered c.args.self.now c.args.self.now [] ls) (sym c.in_ok-lists.ensures.items) (numbered_none c.args.self.now c.requires.begun);
  room = c.requires.room;
}

pub number-requires-clause-rules : goal.number-requires-clause-rules
number-requires-clause-rules c =
    let d = c.constraint-item.result in
    let l : c.loop-constraint.constraint-index < length c.args.constraints.now = omega arith in
    let at = constraint_rules c.args.self.now c.args.constraints.now c.requires.constraints c.requires.begun c.loop-constraint.constraint-index d l c.constraint-item.is in
    subst (λ (m : CpModel). All (KeepsRules m.variables) (expressions_of d.kind)) (sym c.loop-constraint.invariant.numbered.defines.model) at

pub number-requires-clause-room : goal.number-requires-clause-room
number-requires-clause-room c =
    let d = c.constraint-item.result in
    let k = c.loop-constraint.constraint-index in
    let l : k < length c.args.constraints.now = omega arith in
    let rest = sum_by-drop_more constraint_entries c.args.constraints.now k d l in
    let here = ap (λ (x : Constraint). constraint_entries x) c.constraint-item.is in
    let most = constraint_most d in
    let room = c.loop-constraint.invariant.room in
    omega arith

pub loop-constraint-preserved : goal.loop-constraint-preserved
loop-constraint-preserved c =
    let cs = c.args.constraints.now in
    let k = c.loop-constraint.constraint-index in
    let d = c.constraint-item.result in
    let l : k < length cs = omega arith in
    let longer : take (k + 1) cs ≡ take k cs ++ d ∷ [] = take_more cs k d l ∙ ap (λ u. take k cs ++ u ∷ []) (sym c.constraint-item.is) in
    let p = c.args.self.now in
    let q = c.loop-constraint.self in
    let r = c.number.new.self in
    let is = c.in_ok-subjects.subjects in
    let h = c.in_ok-subjects.ensures in
    let step = numbered_more p q r (take k cs) c.loop-constraint.lists.items d is c.loop-constraint.invariant.numbered h in
    let rest = sum_by-drop_more constraint_entries cs k d l in
    let here = ap (λ (x : Constraint). constraint_entries x) c.constraint-item.is in
    let most = constraint_most d in
    let few = numbers_room q r (expressions_of d.kind) [] is c.loop-constraint.invariant.numbered.begun h in
    let room = c.loop-constraint.invariant.room in
    record {
      numbered = subst (λ (ls : List (List ℕ)). Numbered p r (take (k + 1) cs) ls) (sym c.in_ok-push.ensures.items)
          (subst (λ (xs : List Constraint). Numbered p r xs (c.loop-constraint.lists.items ++ is ∷ [])) (sym longer) step);
      room = omega arith;
    }

pub returns-clause-begun : goal.returns-clause-begun
returns-clause-begun c = c.loop-constraint.invariant.numbered.begun

pub returns-clause-defines : goal.returns-clause-defines
returns-clause-defines c =
    let all = take_all c.loop-constraint.constraint-index c.args.constraints.now (omega arith) in
    subst (λ (cs : List Constraint). DefinesAll c.args.self.now c.loop-constraint.self (constraint_sums cs)) all c.loop-constraint.invariant.numbered.defines

pub returns-clause-own : goal.returns-clause-own
returns-clause-own c =
    let all = take_all c.loop-constraint.constraint-index c.args.constraints.now (omega arith) in
    subst (λ (cs : List Constraint). c.loop-constraint.lists.items ≡ subject_lists (next_subject c.args.self.now) cs) all c.loop-constraint.invariant.numbered.own

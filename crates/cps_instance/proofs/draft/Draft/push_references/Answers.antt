-- One more reference has its subject.
use Rattle.std.proofs.Common.{rules, ◌≡◌, ◌<◌, ℤ, List, ap, subst, take, map, get_or, pos, to_z, of_z, w32, FitsSigned, length, arith}
use Rattle.std.proofs.lemmas.Int.{to_z-of_z}
use Rattle.std.proofs.lemmas.List.{take_all}
use Rattle.cps_model.specs.Values.{reference_expression}
use Rattle.cps_instance.specs.Strategies.{NumbersExpressions}
use Rattle.cps_instance.proofs.Drafting.{numbers_none, reference_keeps, reference_room, numbers_reference}
use Rattle.cps_instance.proofs.draft.Draft.push_references.Goals as goal

pub loop-reference-init : goal.loop-reference-init
loop-reference-init c = numbers_none c.args.self.now c.args.subjects.now.items c.requires.begun

pub push_reference-requires-clause-rules : goal.push_reference-requires-clause-rules
push_reference-requires-clause-rules c =
    let k = c.loop-reference.reference-index in
    let l : k < length c.args.references.now = omega arith in
    let r = get_or c.args.references.now k (pos 0) in
    let fits : FitsSigned w32 r = search rules in
    let is : reference_expression (to_z w32 (of_z w32 r)) ≡ reference_expression r = ap (λ (z : ℤ). reference_expression z) (to_z-of_z w32 _ fits) in
    reference_keeps c.args.self.now c.loop-reference.self c.args.references.now (map reference_expression (take k c.args.references.now)) c.args.subjects.now.items c.loop-reference.subjects.items c.loop-reference.invariant c.requires.rules
    k (reference_expression (to_z w32 (of_z w32 r))) l is

pub push_reference-requires-clause-room : goal.push_reference-requires-clause-room
push_reference-requires-clause-room c =
    let k = c.loop-reference.reference-index in
    let l : k < length c.args.references.now = omega arith in
    reference_room c.args.self.now c.loop-reference.self c.args.references.now k c.args.subjects.now.items c.loop-reference.subjects.items c.requires.begun c.loop-reference.invariant l c.requires.room

pub loop-reference-preserved : goal.loop-reference-preserved
loop-reference-preserved c =
    let k = c.loop-reference.reference-index in
    let l : k < length c.args.references.now = omega arith in
    let r = get_or c.args.references.now k (pos 0) in
    let fits : FitsSigned w32 r = search rules in
    let is : reference_expression (to_z w32 (of_z w32 r)) ≡ reference_expression r = ap (λ (z : ℤ). reference_expression z) (to_z-of_z w32 _ fits) in
    numbers_reference c.args.self.now c.loop-reference.self c.push_reference.new.self c.args.references.now k (reference_expression (to_z w32 (of_z w32 r))) c.args.subjects.now.items c.loop-reference.subjects.items c.push_reference.new.subjects.items
    l is c.loop-reference.invariant c.in_ok-push_reference.ensures

pub returns : goal.returns
returns c =
    let all = take_all c.loop-reference.reference-index c.args.references.now (omega arith) in
    subst (λ (rs : List ℤ). NumbersExpressions c.args.self.now c.loop-reference.self (map reference_expression rs) c.args.subjects.now.items c.loop-reference.subjects.items) all c.loop-reference.invariant

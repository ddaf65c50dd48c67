use Rattle.std.proofs.Common.{◌≡◌, Ok, None, Option, List, length, subst, rules}
use Rattle.std.specs.Prelude.{IfSome}
use Rattle.cps_instance.specs.declared.task.Span.{Span}
use Rattle.cps_instance.specs.declared.task.Body.TheVariants.{NoOverlap2d}
use Rattle.cps_propagate.specs.Strength.{HasSeparateBoxes}
use Rattle.cps_rule.specs.Rules.{IsAtRest}
use Rattle.cps_p_span.specs.declared.pairs.Pair.{Pair}
use Rattle.cps_p_boxes.specs.Boxes.{LeavesNoBody, IsCount}
use Rattle.cps_p_boxes.proofs.Boxing.{kept_of, given_of, direction_known, separate, boxes_at_rest, are_along, are_across}
use Rattle.cps_p_boxes.proofs.boxes.BoxesRule.look.Goals as goal

pub look-requires : goal.look-requires
look-requires c = are_along c.args.store.now.first c.args.self.now.x.spans c.args.self.now.y.spans c.requires.fits

pub look-requires-2 : goal.look-requires-2
look-requires-2 c = are_across c.args.store.now.first c.args.self.now.x.spans c.args.self.now.y.spans c.requires.fits

pub meet_all-requires-clause-x : goal.meet_all-requires-clause-x
meet_all-requires-clause-x c = direction_known c.args.store.now c.look.new.self c.in_ok-look.ensures.seen

pub meet_all-requires-clause-y : goal.meet_all-requires-clause-y
meet_all-requires-clause-y c = direction_known c.args.store.now c.look-2.new.self c.in_ok-look-2.ensures.seen

pub returns-in-Some-clause-given : goal.returns-in-Some-clause-given
returns-in-Some-clause-given c =
    given_of c.args.store.now c.look.new.self c.look-2.new.self c.in_ok-look.ensures.seen c.in_ok-look-2.ensures.seen c.args.self.now.x.spans c.args.self.now.y.spans c.look.ensures.spans c.look-2.ensures.spans c.clear.new.self.items c.meet_all.new.found.items c.clear.ensures.items c.in_ok-pair.ensures.given

pub returns-in-Some-clause-seen : goal.returns-in-Some-clause-seen
returns-in-Some-clause-seen c =
    let s = c.args.store.now in
    let leaves = subst (λ (o : Option Pair). IfSome o (λ p. LeavesNoBody c.look.new.self c.look-2.new.self)) c.in-Some.is c.in_ok-pair.ensures.impossible in
    leaves s c.in_ok-look.ensures.seen c.in_ok-look-2.ensures.seen (NoOverlap2d c.args.self.now.x.spans c.args.self.now.y.spans) (kept_of c.args.self.now.x.spans c.args.self.now.y.spans c.look.new.self.spans c.look-2.new.self.spans c.look.ensures.spans c.look-2.ensures.spans)

pub returns-in-None-clause-given : goal.returns-in-None-clause-given
returns-in-None-clause-given c =
    given_of c.args.store.now c.look.new.self c.look-2.new.self c.in_ok-look.ensures.seen c.in_ok-look-2.ensures.seen c.args.self.now.x.spans c.args.self.now.y.spans c.look.ensures.spans c.look-2.ensures.spans c.clear.new.self.items c.meet_all.new.found.items c.clear.ensures.items c.in_ok-pair.ensures.given

pub returns-in-None-clause-rest : goal.returns-in-None-clause-rest
returns-in-None-clause-rest c e all =
    let s = c.args.store.now in
    let none : c.meet_all.result ≡ Ok None = search rules in
    let count = subst (λ (ts : List Span). IsCount (length ts) (length c.look-2.new.self.spans) c.count_of-count.result) c.as_slice.ensures
    (subst (λ (ts : List Span). IsCount (length c.as_slice.result.now) (length ts) c.count_of-count.result) c.as_slice-2.ensures c.count_of-count.ensures) in
    subst (λ (ts : List Span). IsAtRest (NoOverlap2d ts c.args.self.now.y.spans) c.args.store.now) c.look.ensures.spans
    (subst (λ (ts : List Span). IsAtRest (NoOverlap2d c.look.new.self.spans ts) c.args.store.now) c.look-2.ensures.spans
    (boxes_at_rest s c.look.new.self c.look-2.new.self c.in_ok-look.ensures.seen c.in_ok-look-2.ensures.seen c.count_of-count.result count (c.meet_all.ensures.allowed none)
    (c.meet_all.ensures.rest none s c.in_ok-look.ensures.seen c.in_ok-look-2.ensures.seen all).1))

pub returns-in-None-clause-seen : goal.returns-in-None-clause-seen
returns-in-None-clause-seen c = λ excluded.
    let s = c.args.store.now in
    let none : c.meet_all.result ≡ Ok None = search rules in
    let count = subst (λ (ts : List Span). IsCount (length ts) (length c.look-2.new.self.spans) c.count_of-count.result) c.as_slice.ensures
    (subst (λ (ts : List Span). IsCount (length c.as_slice.result.now) (length ts) c.count_of-count.result) c.as_slice-2.ensures c.count_of-count.ensures) in
    excluded (subst (λ (ts : List Span). HasSeparateBoxes s ts c.args.self.now.y.spans) c.look.ensures.spans
    (subst (λ (ts : List Span). HasSeparateBoxes s c.look.new.self.spans ts) c.look-2.ensures.spans
    (separate s c.look.new.self c.look-2.new.self c.in_ok-look.ensures.seen c.in_ok-look-2.ensures.seen c.count_of-count.result count (c.meet_all.ensures.allowed none))))

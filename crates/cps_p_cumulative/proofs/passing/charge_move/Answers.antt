-- What an event adds is bounded by what its change counts, or is nothing where it is seen to rest.
use Rattle.std.proofs.Common.{◌≡◌, ◌<◌, true, pos, refl, ◌≤ℤ◌, length, subst, sym, rules, FitsSigned}
use Rattle.std.specs.Prelude.{Ok}
use Rattle.std.specs.Int.{w128}
use Rattle.std.proofs.lemmas.Int.{ints, to_z-of_z}
use Rattle.cps_p_cumulative.proofs.Levelled.{on_change, added-least, added-rest, added-acted, some_number, no_number, ok_true}
use Rattle.cps_p_cumulative.proofs.passing.charge_move.Goals as goal

pub rely-requires-2-clause-subject : goal.rely-requires-2-clause-subject
rely-requires-2-clause-subject c =
    let bound = c.in-Some-toward_bound.ensures in
    subst (λ i. i < length c.args.past.now.first) (sym bound.subject) (on_change (λ i. i < length c.args.past.now.first) c.args.event.now c.requires.event)

pub returns-then-counted-le0 : goal.returns-then-counted-le0
returns-then-counted-le0 c = λ v ok.
    let x = c.seeming_share-counted.result in
    let g : FitsSigned w128 x = search rules in
    let e = some_number x v (rw (to_z-of_z w128 x g) at ok) in
    let one : c.rely-2.result ≡ Ok true = ok_true c.rely-2.result c.in_ok-rely-2.field-0 c.in_ok-rely-2.was c.if-not-branch.false in
    let bound = rw (to_z-of_z w128 x g) at c.in-Some-toward_bound.ensures in
    let low : x ≤ℤ pos 0 = (let h = c.if-counted-le0.true in search (rules, ints)) in
    added-least c.args.past.now c.args.case.assumed c.args.side c.args.case.time v x c.args.event.now c.in-Some-toward_bound.bound c.args.facts.now.items c.rely-2.new.facts.items e low bound (c.rely-2.ensures one)

pub returns : goal.returns
returns c = λ v ok.
    let x = c.seeming_share-counted.result in
    let g : FitsSigned w128 x = search rules in
    let e = some_number x v (rw (to_z-of_z w128 x g) at ok) in
    let one : c.rely-2.result ≡ Ok true = ok_true c.rely-2.result c.in_ok-rely-2.field-0 c.in_ok-rely-2.was c.if-not-branch.false in
    let two : c.rely_acted.result ≡ Ok true = ok_true c.rely_acted.result c.in_ok-rely_acted.field-0 c.in_ok-rely_acted.was c.if-not-branch-2.false in
    let bound = rw (to_z-of_z w128 x g) at c.in-Some-toward_bound.ensures in
    added-acted c.args.past.now c.args.case.assumed c.args.side c.args.case.time v x c.args.event.now c.in-Some-toward_bound.bound c.args.facts.now.items c.rely-2.new.facts.items c.rely_acted.new.facts.items e bound (c.rely-2.ensures one) (c.rely_acted.ensures two)

pub returns-then-branch : goal.returns-then-branch
returns-then-branch c = λ v ok. added-rest c.args.past.now c.args.case.assumed c.args.side c.args.case.time v c.args.event.now c.in-Some.rest c.args.facts.now.items c.rely.new.facts.items (some_number (pos 0) v ok) c.in-Some.ensures (c.rely.ensures (ok_true c.rely.result c.in_ok-rely.field-0 c.in_ok-rely.was c.if-branch.true))

pub returns-in-Some : goal.returns-in-Some
returns-in-Some c = λ v ok. no_number _ _ v ok refl

pub returns-in_default-toward_bound : goal.returns-in_default-toward_bound
returns-in_default-toward_bound c = λ v ok. no_number _ _ v ok refl

pub returns-then-not-branch : goal.returns-then-not-branch
returns-then-not-branch c = λ v ok. no_number _ _ v ok refl

pub returns-then-not-branch-2 : goal.returns-then-not-branch-2
returns-then-not-branch-2 c = λ v ok. no_number _ _ v ok refl

pub rest_of-requires : goal.rest_of-requires
rest_of-requires c = c.requires.event

pub rely_acted-requires-clause-event : goal.rely_acted-requires-clause-event
rely_acted-requires-clause-event c = c.requires.event

pub rely_acted-requires-clause-facts : goal.rely_acted-requires-clause-facts
rely_acted-requires-clause-facts c = (c.rely-2.ensures (ok_true c.rely-2.result c.in_ok-rely-2.field-0 c.in_ok-rely-2.was c.if-not-branch.false)).facts

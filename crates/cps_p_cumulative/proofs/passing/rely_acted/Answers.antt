-- An event has taken place where its atom is true and its time has come.
use Rattle.std.proofs.Common.{◌≡◌, ◌<◌, true, refl, length, rules, FitsSigned, w64}
use Rattle.std.specs.Prelude.{Ok}
use Rattle.std.proofs.lemmas.Int.{to_z-of_z}
use Rattle.cps_p_cumulative.proofs.Levelled.{on_time, active_inside, acted-relied, ok_true, no_yes}
use Rattle.cps_p_cumulative.proofs.passing.rely_acted.Goals as goal

pub rely_active-requires-clause-subject : goal.rely_active-requires-clause-subject
rely_active-requires-clause-subject c = active_inside c.args.past.now.first c.args.event.now c.requires.event

pub rely-requires-clause-subject : goal.rely-requires-clause-subject
rely-requires-clause-subject c = let l = on_time (λ i. i < length c.args.past.now.first) c.args.event.now c.requires.event in rw c.at_most.ensures l

pub returns : goal.returns
returns c = λ ok.
    let one : c.rely_active.result ≡ Ok true = ok_true c.rely_active.result c.in_ok-rely_active.field-0 c.in_ok-rely_active.was c.if-not-branch.false in
    let f : FitsSigned w64 c.args.case.time = search rules in
    let is = rw (to_z-of_z w64 c.args.case.time f) at c.at_most.ensures in
    acted-relied c.args.past.now c.args.case.assumed c.args.case.time c.args.event.now c.at_most.result c.args.facts.now.items c.rely_active.new.facts.items c.rely.new.facts.items is (c.rely_active.ensures one) (c.rely.ensures ok)

pub returns-then-not-branch : goal.returns-then-not-branch
returns-then-not-branch c = λ ok. no_yes _ _ ok refl

pub rely-requires-clause-facts : goal.rely-requires-clause-facts
rely-requires-clause-facts c = (c.rely_active.ensures (ok_true c.rely_active.result c.in_ok-rely_active.field-0 c.in_ok-rely_active.was c.if-not-branch.false)).facts

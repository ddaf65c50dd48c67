-- A span is present where each of its atoms is true, and lies between the two times by two atoms more.
use Rattle.std.proofs.Common.{◌≡◌, true, refl, subst, sym, List, length, ◌<◌, rules, FitsSigned, w64}
use Rattle.std.specs.List.{All}
use Rattle.std.specs.Prelude.{Ok}
use Rattle.std.proofs.lemmas.Int.{to_z-of_z}
use Rattle.cps_literal.specs.declared.atom.Atom.{Atom}
use Rattle.cps_p_cumulative.proofs.SpanDemands.{start-inside, time-inside, both-inside, presence-inside}
use Rattle.cps_p_cumulative.proofs.Levelled.{ok_true, no_yes, no_err}
use Rattle.cps_p_cumulative.proofs.Relied.{run-relied}
use Rattle.cps_p_cumulative.proofs.charge.rely_run.Goals as goal

pub rely_all-requires-clause-subjects : goal.rely_all-requires-clause-subjects
rely_all-requires-clause-subjects c = subst (λ (us : List Atom). All (λ u. u.subject < length c.args.past.now.first) us) (sym c.as_slice.ensures) (presence-inside c.args.past.now.first c.args.span.now c.requires.span)

pub rely_all-requires-2-clause-subjects : goal.rely_all-requires-2-clause-subjects
rely_all-requires-2-clause-subjects c =
    let first = c.args.past.now.first in
    let l = start-inside first c.args.span.now c.requires.span in
    both-inside first c.at_most.result c.in-Some.last (rw c.at_most.ensures l) (time-inside first c.args.span.now c.in-Some.last.subject c.requires.span c.in-Some.ensures.subject)

pub rely_all-requires-clause-facts : goal.rely_all-requires-clause-facts
rely_all-requires-clause-facts c = c.requires.facts

pub rely_all-requires-2-clause-facts : goal.rely_all-requires-2-clause-facts
rely_all-requires-2-clause-facts c = (c.rely_all.ensures (ok_true c.rely_all.result c.in_ok-rely_all.field-0 c.in_ok-rely_all.was c.if-not-branch.false)).facts

pub returns : goal.returns
returns c = λ ok.
    let one : c.rely_all.result ≡ Ok true = ok_true c.rely_all.result c.in_ok-rely_all.field-0 c.in_ok-rely_all.was c.if-not-branch.false in
    let f : FitsSigned w64 c.args.stay.latest = search rules in
    let g : FitsSigned w64 c.args.stay.after = search rules in
    let starts = rw (to_z-of_z w64 c.args.stay.latest f) at c.at_most.ensures in
    let later = rw (to_z-of_z w64 c.args.stay.after g) at c.in-Some.ensures in
    run-relied c.args.past.now c.args.case.assumed c.args.stay.latest c.args.stay.after c.args.span.now c.as_slice.result.now c.at_most.result c.in-Some.last c.args.facts.now.items c.rely_all.new.facts.items c.rely_all-2.new.facts.items
    c.as_slice.ensures starts later (c.rely_all.ensures one) (c.rely_all-2.ensures ok)

pub returns-in_default : goal.returns-in_default
returns-in_default c = λ ok. no_yes _ _ ok refl

pub returns-in_err-rely_all : goal.returns-in_err-rely_all
returns-in_err-rely_all c = λ ok. no_err _ _ _ ok c.from_residual.ensures.0

pub returns-then-not-branch : goal.returns-then-not-branch
returns-then-not-branch c = λ ok. no_yes _ _ ok refl

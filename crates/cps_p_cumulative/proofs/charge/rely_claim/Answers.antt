-- A span that runs where it is claimed to, and demands so much, uses what is claimed.
use Rattle.std.proofs.Common.{◌≡◌, true, refl, rules, FitsSigned, w64}
use Rattle.std.specs.Prelude.{Ok}
use Rattle.std.proofs.lemmas.Int.{to_z-of_z}
use Rattle.cps_p_cumulative.proofs.Levelled.{ok_true, no_yes, no_err}
use Rattle.cps_p_cumulative.proofs.Relied.{claim-relied}
use Rattle.cps_p_cumulative.proofs.charge.rely_claim.Goals as goal

pub rely_run-requires-clause-span : goal.rely_run-requires-clause-span
rely_run-requires-clause-span c = c.requires.span

pub rely_run-requires-clause-facts : goal.rely_run-requires-clause-facts
rely_run-requires-clause-facts c = c.requires.facts

pub returns-in_err-rely_run : goal.returns-in_err-rely_run
returns-in_err-rely_run c = λ ok. no_err _ _ _ ok c.from_residual.ensures.0

pub returns-then-not-branch : goal.returns-then-not-branch
returns-then-not-branch c = λ ok. no_yes _ _ ok refl

pub rely-requires-clause-subject : goal.rely-requires-clause-subject
rely-requires-clause-subject c = let l = c.requires.demand in rw c.at_least.ensures l

pub rely-requires-clause-facts : goal.rely-requires-clause-facts
rely-requires-clause-facts c = (c.rely_run.ensures (ok_true c.rely_run.result c.in_ok-rely_run.field-0 c.in_ok-rely_run.was c.if-not-branch.false)).facts

pub returns : goal.returns
returns c = λ ok.
    let claim = c.args.claim in
    let g : FitsSigned w64 claim.demand = search rules in
    let one : c.rely_run.result ≡ Ok true = ok_true c.rely_run.result c.in_ok-rely_run.field-0 c.in_ok-rely_run.was c.if-not-branch.false in
    let is = rw (to_z-of_z w64 claim.demand g) at c.at_least.ensures in
    claim-relied c.args.past.now c.args.case.assumed c.args.case.time c.args.case.width c.args.load.now.span.now c.args.load.now.demand claim c.at_least.result c.args.facts.now.items c.rely_run.new.facts.items c.rely.new.facts.items
    c.requires.claim is (c.rely_run.ensures one) (c.rely.ensures ok)

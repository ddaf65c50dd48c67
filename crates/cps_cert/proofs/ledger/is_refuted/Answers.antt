-- The constraint is one of a valid model.
use Rattle.std.proofs.Common.{◌≡◌, List, length, get_or, ◌∙◌, ap, subst}
use Rattle.std.proofs.lemmas.List.{get_or_default}
use Rattle.cps_model.specs.declared.model.CpModel.{CpModel}
use Rattle.cps_model.specs.declared.constraint.Constraint.{Constraint}
use Rattle.cps_model.specs.Validity.{IsValid}
use Rattle.cps_rup.specs.Domains.{box_in}
use Rattle.cps_cert.proofs.Boxed.{IsReadable, readable_at, refuted_at}
use Rattle.cps_cert.proofs.ledger.is_refuted.Goals as goal
use Rattle.cps_cert.proofs.ledger.is_refuted.Goals.{After-index-constraints-trial}

at : (c : After-index-constraints-trial) → c.index-constraints-trial.result ≡ get_or c.args.trial.now.model.now.constraints c.args.trial.now.constraint c.index-constraints-trial.result
at c = c.index-constraints-trial.is ∙ ap (λ (cs : List Constraint). get_or cs c.args.trial.now.constraint c.index-constraints-trial.result) (c.as_slice-constraints.ensures ∙ ap (λ (m : CpModel). m.constraints) c.model.ensures.same)

reads : (c : After-index-constraints-trial) → IsReadable (box_in c.args.trial.now.domains.now) (length c.args.trial.now.domains.now) c.index-constraints-trial.result
reads c = readable_at c.args.trial.now.model.now c.args.trial.now.sums.now c.args.trial.now.clause.now c.args.trial.now.domains.now c.args.trial.now.constraint c.index-constraints-trial.result (subst IsValid c.model.ensures.same c.model.ensures.valid) c.requires.left c.requires.exists (at c)

pub refutes-requires-clause-enforcement : goal.refutes-requires-clause-enforcement
refutes-requires-clause-enforcement c = (reads (goal.at.refutes-requires-clause-enforcement c).After-index-constraints-trial).enforcement

pub refutes-requires-clause-named : goal.refutes-requires-clause-named
refutes-requires-clause-named c = (reads (goal.at.refutes-requires-clause-named c).After-index-constraints-trial).named

pub refutes-requires-clause-sums : goal.refutes-requires-clause-sums
refutes-requires-clause-sums c = (reads (goal.at.refutes-requires-clause-sums c).After-index-constraints-trial).sums

pub returns-in-Some-clause-refuted : goal.returns-in-Some-clause-refuted
returns-in-Some-clause-refuted c = λ d. (
    let m = c.args.trial.now.model.now in
    let sums = c.args.trial.now.sums.now in
    let clause = c.args.trial.now.clause.now in
    let k = c.args.trial.now.constraint in
    let one = at (goal.at.returns-in-Some-clause-refuted c).After-index-constraints-trial in
    let same = one ∙ get_or_default m.constraints k c.index-constraints-trial.result d c.requires.exists in
    refuted_at m sums clause (box_in c.args.trial.now.domains.now) c.index-constraints-trial.result (get_or m.constraints k d) c.in-Some.refuted c.requires.left.same same (c.in-Some.ensures m sums clause))

-- The objective is that of a valid model, and the box leaves each subject a value.
use Rattle.std.proofs.Common.{◌≡◌, ℕ, List, length, ℤ, sym, ◌∙◌, subst}
use Rattle.cps_model.specs.declared.model.CpModel.{CpModel}
use Rattle.cps_model.specs.Validity.{IsValid}
use Rattle.cps_literal.specs.declared.atom.Atom.{Atom}
use Rattle.cps_log.specs.Boxes.{box_of}
use Rattle.cps_log.specs.Subjects.{IsClauseOver, subject_domains, subject_count}
use Rattle.cps_rup.specs.Domains.{box_in}
use Rattle.cps_cert.specs.Accepting.{IsObjectiveRefuted}
use Rattle.cps_cert.specs.Domains.{IsSmallObjective}
use Rattle.cps_cert.specs.Ledgers.{derivation_of}
use Rattle.cps_cert.specs.Trying.{IsBoxOf}
use Rattle.cps_cert.proofs.Accepted.{Tells, over_subjects}
use Rattle.cps_cert.proofs.Filled.{box_kept, objective_small, objective_of_box}
use Rattle.cps_cert.proofs.ledger.Ledger.is_about_objective.Goals as goal
use Rattle.cps_cert.proofs.ledger.Ledger.is_about_objective.Goals.{After-as_slice}

over : (c : After-as_slice) → IsClauseOver (subject_count c.args.model.now.variables c.args.self.now.sums.items) c.args.clause.now
over c =
    let l = c.requires.ledger in
    let here : IsClauseOver c.subject_count.result c.as_slice-clause.result.now = c.is_over.ensures.0 c.if-not-is_over.false in
    over_subjects c.args.self.now.domains.first c.args.model.now.variables c.args.self.now.sums.items c.subject_count.result c.args.clause.now l.domains (c.subject_count.ensures ∙ l.many) (subst (IsClauseOver c.subject_count.result) c.as_slice-clause.ensures here)

left : (c : After-as_slice) → IsBoxOf c.args.model.now c.args.self.now.sums.items c.args.clause.now c.as_slice.result.now
left c =
    let l = c.requires.ledger in
    let lists = subject_domains c.args.model.now.variables c.args.self.now.sums.items in
    let now = c.make_box.new.domains.now in
    let same = subst (λ (t : List Atom). (s : ℕ) (x : ℤ) → box_in now s x ≡ box_of lists t s x) c.as_slice-clause.ensures (c.in_ok-make_box.ensures.kept c.if-not-branch.false lists l.domains) in
    box_kept c.args.model.now c.args.self.now.sums.items c.args.clause.now c.args.self.now.domains.first now c.as_slice.result.now l.domains c.make_box.ensures.many same c.as_slice.ensures.now c.as_slice.ensures.values

pub is_objective_refuted-requires-clause-small : goal.is_objective_refuted-requires-clause-small
is_objective_refuted-requires-clause-small c =
    let valid = subst IsValid c.model.ensures.same c.model.ensures.valid in
    let small = objective_small c.args.model.now c.args.self.now.sums.items c.args.clause.now c.as_slice.result.now valid (left (goal.at.is_objective_refuted-requires-clause-small c).After-as_slice) in
    subst (λ (m : CpModel). IsSmallObjective (box_in c.as_slice.result.now) (length c.as_slice.result.now) m.objective) (sym c.model.ensures.same) small

pub returns-clause-accepted : goal.returns-clause-accepted
returns-clause-accepted c =
    let step = (goal.at.returns-clause-accepted c).After-as_slice in
    let said = subst (λ (m : CpModel). Tells c.is_objective_refuted.result (IsObjectiveRefuted m.objective c.args.claim.now (box_in c.as_slice.result.now))) c.model.ensures.same c.is_objective_refuted.ensures in
    objective_of_box c.args.model.now c.args.claim.now (derivation_of c.args.self.now) c.args.clause.now c.as_slice.result.now c.is_objective_refuted.result (over step) (left step) said

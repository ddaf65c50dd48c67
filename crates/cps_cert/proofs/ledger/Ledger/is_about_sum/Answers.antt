-- The subject stands for a sum that may be defined, and the box leaves each subject a value.
use Rattle.std.specs.Prelude.{Some}
use Rattle.std.proofs.Common.{◌≡◌, ℕ, List, length, ℤ, sym, ◌∙◌, ap, subst}
use Rattle.cps_model.specs.declared.model.CpModel.{CpModel}
use Rattle.cps_model.specs.declared.model.LinearExpr.{LinearExpr}
use Rattle.cps_model.specs.Validity.{IsValid}
use Rattle.cps_literal.specs.declared.atom.Atom.{Atom}
use Rattle.cps_log.specs.Boxes.{box_of}
use Rattle.cps_log.specs.Subjects.{IsDefinable, IsClauseOver, subject_domains, subject_count, sum_at}
use Rattle.cps_rup.specs.Domains.{box_in}
use Rattle.cps_cert.specs.Ledgers.{derivation_of}
use Rattle.cps_cert.specs.Trying.{IsBoxOf}
use Rattle.cps_cert.proofs.Accepted.{over_subjects}
use Rattle.cps_cert.proofs.Filled.{box_kept, sum_definable, sum_small, offset_near, ends_of_box}
use Rattle.cps_cert.proofs.ledger.Ledger.is_about_sum.Goals as goal
use Rattle.cps_cert.proofs.ledger.Ledger.is_about_sum.Goals.{After-as_slice-in-Some}

over : (c : After-as_slice-in-Some) → IsClauseOver (subject_count c.args.model.now.variables c.args.self.now.sums.items) c.args.clause.now
over c =
    let l = c.requires in
    let here : IsClauseOver c.subject_count.result c.as_slice-clause.result.now = c.is_over.ensures.0 c.if-not-is_over.false in
    over_subjects c.args.self.now.domains.first c.args.model.now.variables c.args.self.now.sums.items c.subject_count.result c.args.clause.now l.domains (c.subject_count.ensures ∙ l.many) (subst (IsClauseOver c.subject_count.result) c.as_slice-clause.ensures here)

left : (c : After-as_slice-in-Some) → IsBoxOf c.args.model.now c.args.self.now.sums.items c.args.clause.now c.as_slice-in-Some.result.now
left c =
    let l = c.requires in
    let lists = subject_domains c.args.model.now.variables c.args.self.now.sums.items in
    let now = c.make_box.new.domains.now in
    let same = subst (λ (t : List Atom). (s : ℕ) (x : ℤ) → box_in now s x ≡ box_of lists t s x) c.as_slice-clause.ensures (c.in_ok-make_box.ensures.kept c.if-not-branch.false lists l.domains) in
    box_kept c.args.model.now c.args.self.now.sums.items c.args.clause.now c.args.self.now.domains.first now c.as_slice-in-Some.result.now l.domains c.make_box.ensures.many same c.as_slice-in-Some.ensures.now c.as_slice-in-Some.ensures.values

is : (c : After-as_slice-in-Some) → sum_at c.args.model.now.variables c.args.self.now.sums.items c.args.subject ≡ Some c.in-Some.sum.now
is c =
    let m = c.args.model.now in
    let many : c.len-variables.result ≡ length m.variables = c.len-variables.ensures ∙ ap (λ (n : CpModel). length n.variables) c.model.ensures.same in
    subst (λ (es : List LinearExpr). sum_at m.variables es c.args.subject ≡ Some c.in-Some.sum.now) c.as_slice-2.ensures.value (c.in-Some.ensures m.variables (sym many))

definable : (c : After-as_slice-in-Some) → IsDefinable c.args.model.now.variables c.in-Some.sum.now
definable c = sum_definable c.args.model.now.variables c.args.self.now.sums.items c.args.subject c.in-Some.sum.now c.requires.definable (is c)

pub are_ends_apart-requires-clause-small : goal.are_ends_apart-requires-clause-small
are_ends_apart-requires-clause-small c =
    let step = (goal.at.are_ends_apart-requires-clause-small c).After-as_slice-in-Some in
    sum_small c.args.model.now c.args.self.now.sums.items c.args.clause.now c.as_slice-in-Some.result.now c.in-Some.sum.now (subst IsValid c.model.ensures.same c.model.ensures.valid) (left step) (definable step)

pub are_ends_apart-requires-clause-near : goal.are_ends_apart-requires-clause-near
are_ends_apart-requires-clause-near c = offset_near c.args.model.now.variables c.in-Some.sum.now (definable (goal.at.are_ends_apart-requires-clause-near c).After-as_slice-in-Some)

pub returns-in-Some-clause-accepted : goal.returns-in-Some-clause-accepted
returns-in-Some-clause-accepted c = λ claim. (
    let step = (goal.at.returns-in-Some-clause-accepted c).After-as_slice-in-Some in
    ends_of_box c.args.model.now claim (derivation_of c.args.self.now) c.args.clause.now c.as_slice-in-Some.result.now c.are_ends_apart.result (over step) (left step) c.args.subject c.in-Some.sum.now (is step) c.are_ends_apart.ensures)

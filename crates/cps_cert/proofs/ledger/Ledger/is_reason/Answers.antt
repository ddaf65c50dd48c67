-- The constraint is one of the model's, and the box leaves each subject a value.
use Rattle.std.proofs.Common.{◌≡◌, ℕ, ◌<◌, List, length, get_or, ℤ, ◌∙◌, ap, subst, arith}
use Rattle.cps_model.specs.declared.model.CpModel.{CpModel}
use Rattle.cps_model.specs.declared.model.LinearExpr.{LinearExpr}
use Rattle.cps_literal.specs.declared.atom.Atom.{Atom}
use Rattle.cps_log.specs.Boxes.{box_of}
use Rattle.cps_log.specs.Subjects.{IsClauseOver, subject_domains, subject_count}
use Rattle.cps_rup.specs.Domains.{box_in}
use Rattle.cps_cert.specs.Ledgers.{derivation_of}
use Rattle.cps_cert.specs.Refuting.{Refutes}
use Rattle.cps_cert.specs.Trying.{IsBoxOf}
use Rattle.cps_cert.proofs.Accepted.{Tells, over_subjects}
use Rattle.cps_cert.proofs.Filled.{box_kept, reason_of_box}
use Rattle.cps_cert.proofs.ledger.Ledger.is_reason.Goals as goal
use Rattle.cps_cert.proofs.ledger.Ledger.is_reason.Goals.{After-as_slice-2}

over : (c : After-as_slice-2) → IsClauseOver (subject_count c.args.model.now.variables c.args.self.now.sums.items) c.args.clause.now
over c =
    let l = c.requires in
    let here : IsClauseOver c.subject_count.result c.as_slice-clause.result.now = c.is_over.ensures.0 c.if-not-is_over.false in
    over_subjects c.args.self.now.domains.first c.args.model.now.variables c.args.self.now.sums.items c.subject_count.result c.args.clause.now l.domains (c.subject_count.ensures ∙ l.many) (subst (IsClauseOver c.subject_count.result) c.as_slice-clause.ensures here)

left : (c : After-as_slice-2) → IsBoxOf c.args.model.now c.args.self.now.sums.items c.args.clause.now c.as_slice-2.result.now
left c =
    let l = c.requires in
    let lists = subject_domains c.args.model.now.variables c.args.self.now.sums.items in
    let now = c.make_box.new.domains.now in
    let same = subst (λ (t : List Atom). (s : ℕ) (x : ℤ) → box_in now s x ≡ box_of lists t s x) c.as_slice-clause.ensures (c.in_ok-make_box.ensures.kept c.if-not-branch.false lists l.domains) in
    box_kept c.args.model.now c.args.self.now.sums.items c.args.clause.now c.args.self.now.domains.first now c.as_slice-2.result.now l.domains c.make_box.ensures.many same c.as_slice-2.ensures.now c.as_slice-2.ensures.values

pub returns-clause-accepted : goal.returns-clause-accepted
returns-clause-accepted c = λ claim. (
    let step = (goal.at.returns-clause-accepted c).After-as_slice-2 in
    let m = c.args.model.now in
    let clause = c.args.clause.now in
    let k = c.args.constraint in
    let b = c.in_ok-refuted.refuted in
    let many : c.len.result ≡ length m.constraints = c.len.ensures ∙ ap (λ (n : CpModel). length n.constraints) c.model.ensures.same in
    let below = c.if-constraint-len.false in
    let exists : k < length m.constraints = omega arith in
    reason_of_box m claim (derivation_of c.args.self.now) clause c.as_slice-2.result.now b (over step) (left step) k exists (λ d. (
    let of_clause = subst (λ (t : List Atom). Tells b (Refutes m c.as_slice.result.now t (get_or m.constraints k d))) c.as_slice-clause.ensures (c.in_ok-refuted.ensures.refuted d) in
    subst (λ (es : List LinearExpr). Tells b (Refutes m es clause (get_or m.constraints k d))) c.as_slice.ensures.value of_clause)))

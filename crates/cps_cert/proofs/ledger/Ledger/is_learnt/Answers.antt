-- The propagation's domains are those of the subjects.
use Rattle.std.proofs.Common.{◌≡◌, ℕ, List, length, sym, ◌∙◌, subst}
use Rattle.cps_literal.specs.declared.atom.Atom.{Atom}
use Rattle.cps_log.specs.Subjects.{IsClauseOver}
use Rattle.cps_cert.specs.Ledgers.{derivation_of}
use Rattle.cps_cert.proofs.Accepted.{learnt_told}
use Rattle.cps_cert.proofs.ledger.Ledger.is_learnt.Goals as goal

pub returns-clause-accepted : goal.returns-clause-accepted
returns-clause-accepted c = λ claim. (
    let l = c.requires in
    let ds = c.args.self.now.clauses.domains in
    let clause = c.args.clause.now in
    let count : c.subject_count.result ≡ length ds = c.subject_count.ensures ∙ l.many ∙ l.domains.many ∙ sym l.roots.many in
    let over_at : IsClauseOver c.subject_count.result c.as_slice-clause.result.now = c.is_over.ensures.0 c.if-not-is_over.false in
    let over_ds : IsClauseOver (length ds) c.as_slice-clause.result.now = subst (λ (n : ℕ). IsClauseOver n c.as_slice-clause.result.now) count over_at in
    let over : IsClauseOver (length ds) clause = subst (λ (t : List Atom). IsClauseOver (length ds) t) c.as_slice-clause.ensures over_ds in
    learnt_told c.args.model.now claim (derivation_of c.args.self.now) clause ds c.in_ok-implied.implied l.roots over (rw c.as_slice-clause.ensures at c.in_ok-implied.ensures.implied))

-- The assumption is a literal of a valid model.
use Rattle.std.proofs.Common.{◌≡◌, List, [], ◌∷◌, ℤ, pos, get_or, rules, FitsSigned, w32, sym, ◌∙◌, ap, subst}
use Rattle.std.proofs.lemmas.Int.{to_z-of_z}
use Rattle.std.proofs.lemmas.List.{get_or_default}
use Rattle.cps_model.specs.declared.model.CpModel.{CpModel}
use Rattle.cps_model.specs.Validity.{IsValid}
use Rattle.cps_literal.specs.declared.atom.Atom.{Atom}
use Rattle.cps_log.specs.Deriving.{literal_clause}
use Rattle.cps_log.specs.Subjects.{IsClauseOver, subject_count}
use Rattle.cps_cert.proofs.Boxed.{assumption_over}
use Rattle.cps_cert.proofs.ledger.Ledger.add_assumption.Goals as goal

pub add_clause-requires-clause-over : goal.add_clause-requires-clause-over
add_clause-requires-clause-over c =
    let m = c.args.model.now in
    let valid = subst IsValid c.model.ensures.same c.model.ensures.valid in
    let listed = c.as_slice-assumptions.ensures ∙ ap (λ (n : CpModel). n.assumptions) c.model.ensures.same in
    let r = get_or c.as_slice-assumptions.result.now c.args.number (pos 0) in
    let at : r ≡ get_or m.assumptions c.args.number r = ap (λ (rs : List ℤ). get_or rs c.args.number (pos 0)) listed ∙ get_or_default m.assumptions c.args.number (pos 0) r c.requires.exists in
    let fits : FitsSigned w32 r = search rules in
    let clause : c.atom_of_literal.result ∷ [] ≡ literal_clause r = c.atom_of_literal.ensures ∙ ap literal_clause (to_z-of_z w32 r fits) in
    subst (λ (ts : List Atom). IsClauseOver (subject_count m.variables c.args.self.now.sums.items) ts) (sym clause) (assumption_over m c.args.self.now.sums.items c.args.number r valid c.requires.exists at)

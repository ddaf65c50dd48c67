-- The variables are those of a valid model.
use Rattle.std.specs.Prelude.{All, None}
use Rattle.std.proofs.Common.{◌≡◌, List, sym, ◌∙◌, ap, subst}
use Rattle.cps_model.specs.declared.model.CpModel.{CpModel}
use Rattle.cps_model.specs.declared.model.Variable.{Variable}
use Rattle.cps_model.specs.Validity.{IsValid, variable_fault}
use Rattle.cps_model.proofs.Faults.{parts_of}
use Rattle.cps_cert.proofs.ledger.Ledger.new.Goals as goal

pub domains_of-requires : goal.domains_of-requires
domains_of-requires c =
    let valid = subst IsValid c.model.ensures.same c.model.ensures.valid in
    let same = c.as_slice-variables.ensures ∙ ap (λ (m : CpModel). m.variables) c.model.ensures.same in
    subst (λ (vs : List Variable). All (λ v. variable_fault v ≡ None) vs) (sym same) (parts_of c.args.model.now valid).variables

pub checker_of-requires : goal.checker_of-requires
checker_of-requires c =
    let valid = subst IsValid c.model.ensures.same c.model.ensures.valid in
    let same = c.as_slice-variables.ensures ∙ ap (λ (m : CpModel). m.variables) c.model.ensures.same in
    subst (λ (vs : List Variable). All (λ v. variable_fault v ≡ None) vs) (sym same) (parts_of c.args.model.now valid).variables

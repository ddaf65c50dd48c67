-- The model keeps every rule, and so each of its variables does.
use Rattle.std.specs.Prelude.{All, None}
use Rattle.std.proofs.Common.{◌≡◌, List, sym, subst}
use Rattle.cps_model.specs.declared.model.Variable.{Variable}
use Rattle.cps_model.specs.Validity.{variable_fault}
use Rattle.cps_model.proofs.Faults.{parts_of}
use Rattle.cps_cert.proofs.assignments.Assignments.new.Goals as goal

pub least_values-requires : goal.least_values-requires
least_values-requires c = subst (λ (vs : List Variable). All (λ v. variable_fault v ≡ None) vs) (sym c.as_slice.ensures) (parts_of c.model.result.now c.model.ensures.valid).variables

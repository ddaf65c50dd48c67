-- The variables and the assumptions are those of a valid model.
use Rattle.std.specs.Prelude.{All, None}
use Rattle.std.proofs.Common.{◌≡◌, List, sym, subst}
use Rattle.cps_model.specs.declared.model.Variable.{Variable}
use Rattle.cps_model.specs.Validity.{variable_fault}
use Rattle.cps_model.proofs.Faults.{parts_of}
use Rattle.cps_tracer.proofs.Tracing.{traced_first}
use Rattle.cps_tracer.proofs.tracer.Tracer.new.Goals as goal

pub checker_of-requires : goal.checker_of-requires
checker_of-requires c =
    let m = c.model-model.result.now in
    subst (λ (vs : List Variable). All (λ v. variable_fault v ≡ None) vs) (sym c.as_slice-variables.ensures) (parts_of m c.model-model.ensures.valid).variables

pub invariant_of-result : goal.invariant_of-result
invariant_of-result c =
    let checker = c.in_ok-checker.checker in
    traced_first c.model-model.result.now c.as_slice-variables.result.now c.as_slice.result.now c.new.result.items checker c.model-model.ensures.valid c.as_slice-variables.ensures c.as_slice.ensures c.new.ensures.items c.in_ok-checker.ensures.domains c.in_ok-checker.ensures.clauses

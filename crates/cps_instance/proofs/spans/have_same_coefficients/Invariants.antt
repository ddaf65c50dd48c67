-- The references that are left decide.
use Rattle.std.proofs.Common.{◌≡◌, drop}
use Rattle.std.specs.List.{list_all}
use Rattle.std.specs.Ordering.{int_eq}
use Rattle.cps_model.specs.Values.{variable_of}
use Rattle.cps_instance.specs.Merging.{merged_coefficient}
use Rattle.cps_instance.proofs.spans.have_same_coefficients.Given as goal

abbrev pub invariant-loop-reference : goal.invariant-loop-reference
invariant-loop-reference l =
    list_all (λ r. int_eq (merged_coefficient l.start (variable_of r)) (merged_coefficient l.end (variable_of r))) (drop l.reference-index l.references)
    ≡ list_all (λ r. int_eq (merged_coefficient l.start (variable_of r)) (merged_coefficient l.end (variable_of r))) l.references

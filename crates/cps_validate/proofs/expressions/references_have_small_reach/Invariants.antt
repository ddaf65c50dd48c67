-- What is left decides.
use Rattle.std.specs.Prelude.{map}
use Rattle.std.specs.List.{list_all}
use Rattle.std.proofs.Common.{◌≡◌, drop}
use Rattle.cps_model.specs.Values.{reference_expression}
use Rattle.cps_model.specs.Rules.{has_small_reach}
use Rattle.cps_validate.proofs.expressions.references_have_small_reach.Given as goal

abbrev pub invariant-loop-reference : goal.invariant-loop-reference
invariant-loop-reference l =
    list_all (has_small_reach l.variables) (map reference_expression (drop l.reference-index l.references))
    ≡ list_all (has_small_reach l.variables) (map reference_expression l.references)

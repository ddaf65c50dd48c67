-- What is written so far.
use Rattle.std.specs.Prelude.{string_bytes, codes}
use Rattle.std.specs.List.{flat_map}
use Rattle.std.proofs.Common.{◌≡◌, ◌++◌, take}
use Rattle.cps_print.specs.Layout.{text_of}
use Rattle.cps_print.specs.Fields.{message_field}
use Rattle.cps_print.specs.Models.{printed_variable}
use Rattle.cps_print.proofs.model.put_variables.Given as goal

abbrev pub invariant-loop-variable : goal.invariant-loop-variable
invariant-loop-variable l =
    string_bytes l.text ≡ string_bytes l.fn.text ++ flat_map (λ x. text_of 0 (message_field (codes "variables") (printed_variable x))) (take l.variable-index l.variables)

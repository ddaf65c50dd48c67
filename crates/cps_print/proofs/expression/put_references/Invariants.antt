-- What is written so far.
use Rattle.std.specs.Prelude.{string_bytes, map}
use Rattle.std.specs.List.{flat_map}
use Rattle.std.proofs.Common.{◌≡◌, ◌++◌, take}
use Rattle.cps_model.specs.Values.{reference_expression}
use Rattle.cps_print.specs.Layout.{text_of}
use Rattle.cps_print.specs.Fields.{message_field}
use Rattle.cps_print.specs.Expressions.{printed_expression}
use Rattle.cps_print.proofs.expression.put_references.Given as goal

abbrev pub invariant-loop-reference : goal.invariant-loop-reference
invariant-loop-reference l =
    string_bytes l.text ≡ string_bytes l.fn.text ++ flat_map (λ x. text_of l.level (message_field l.name (printed_expression x))) (map reference_expression (take l.reference-index l.references))

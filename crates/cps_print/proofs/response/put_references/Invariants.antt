-- A line for each reference so far.
use Rattle.std.specs.Prelude.{string_bytes}
use Rattle.std.specs.List.{flat_map}
use Rattle.std.specs.Fmt.{signed_decimal}
use Rattle.std.proofs.Common.{◌≡◌, ◌++◌, take}
use Rattle.cps_print.specs.Responses.{line_of}
use Rattle.cps_print.proofs.response.put_references.Given as goal

abbrev pub invariant-loop-reference : goal.invariant-loop-reference
invariant-loop-reference l =
    string_bytes l.text ≡ string_bytes l.fn.text ++ flat_map (λ reference. line_of l.field (signed_decimal reference)) (take l.reference-index l.references)

-- What is written so far.
use Rattle.std.specs.Prelude.{string_bytes, codes}
use Rattle.std.specs.List.{flat_map}
use Rattle.std.proofs.Common.{◌≡◌, ◌++◌, take}
use Rattle.cps_print.specs.Layout.{text_of}
use Rattle.cps_print.specs.Fields.{message_field}
use Rattle.cps_print.specs.Models.{printed_strategy}
use Rattle.cps_print.proofs.model.put_strategies.Given as goal

abbrev pub invariant-loop-strategy : goal.invariant-loop-strategy
invariant-loop-strategy l =
    string_bytes l.text ≡ string_bytes l.fn.text ++ flat_map (λ x. text_of 0 (message_field (codes "search_strategy") (printed_strategy x))) (take l.strategy-index l.strategies)

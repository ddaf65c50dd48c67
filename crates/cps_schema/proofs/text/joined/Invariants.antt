use Rattle.std.specs.Prelude.{◌≡◌, ◌++◌, drop}
use Rattle.std.specs.List.{flat_map}
use Rattle.cps_schema.specs.Texts.{string_value}
use Rattle.cps_schema.proofs.text.joined.Given as goal

abbrev pub invariant-loop-token : goal.invariant-loop-token
invariant-loop-token l =
    l.value.items ++ flat_map (string_value l.bytes) (drop l.token-index l.tokens) ≡ flat_map (string_value l.bytes) l.tokens

-- The bytes so far.
use Rattle.std.specs.Prelude.{string_bytes}
use Rattle.std.specs.List.{flat_map}
use Rattle.std.proofs.Common.{◌≡◌, ◌++◌, [], ◌∷◌, take}
use Rattle.cps_print.specs.Quoting.{escaped}
use Rattle.cps_print.proofs.quoting.put_quoted.Given as goal

abbrev pub invariant-loop-byte : goal.invariant-loop-byte
invariant-loop-byte l = string_bytes l.text ≡ (string_bytes l.fn.text ++ 34 ∷ []) ++ flat_map escaped (take l.byte-index l.bytes)

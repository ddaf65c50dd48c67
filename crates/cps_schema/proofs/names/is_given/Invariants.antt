use Rattle.std.specs.Prelude.{◌≡◌, drop}
use Rattle.std.specs.List.{list_any}
use Rattle.std.specs.Str.{bytes_eq}
use Rattle.cps_schema.specs.Inputs.{names_of}
use Rattle.cps_schema.proofs.names.is_given.Given as goal

abbrev pub invariant-loop-known : goal.invariant-loop-known
invariant-loop-known l =
    list_any (bytes_eq l.name) (names_of l.names) ≡ list_any (bytes_eq l.name) (names_of (drop l.known-index l.names))

use Rattle.std.specs.Prelude.{◌≡◌, drop}
use Rattle.std.specs.List.{find}
use Rattle.std.specs.Str.{bytes_eq}
use Rattle.cps_schema.specs.Kinds.{field_name}
use Rattle.cps_schema.proofs.kind.find_named.Given as goal

abbrev pub invariant-loop-kind : goal.invariant-loop-kind
invariant-loop-kind l =
    find (λ kind. bytes_eq l.name (field_name kind)) (drop l.kind-index l.kinds) ≡ find (λ kind. bytes_eq l.name (field_name kind)) l.kinds

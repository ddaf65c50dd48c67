use Rattle.std.proofs.Common.{◌≡◌, ◌<◌, map, take, length}
use Rattle.std.specs.Prelude.{All}
use Rattle.cps_p_circuit.specs.Graphs.{number}
use Rattle.cps_p_circuit.proofs.build.places_of.Given as goal

abbrev pub invariant-loop-end : goal.invariant-loop-end
invariant-loop-end l = record {
  within : All (λ v. v < length l.nodes) l.places.items;
  are : map (number l.nodes) l.places.items ≡ take l.end-index l.ends;
}

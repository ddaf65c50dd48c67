use Rattle.std.proofs.Common.{◌≡◌, ◌++◌, map, take}
use Rattle.cps_p_circuit.specs.Graphs.{number}
use Rattle.cps_p_circuit.proofs.decided.add_numbers.Given as goal

abbrev pub invariant-loop-end : goal.invariant-loop-end
invariant-loop-end l = l.numbers.items ≡ l.initial.numbers.items ++ map (number l.nodes) (take l.end-index l.ends)

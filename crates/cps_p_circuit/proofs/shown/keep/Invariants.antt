use Rattle.std.proofs.Common.{take}
use Rattle.cps_p_circuit.specs.Showing.{MakeSignsTrue}
use Rattle.cps_p_circuit.proofs.shown.keep.Given as goal

abbrev pub invariant-loop-sign : goal.invariant-loop-sign
invariant-loop-sign l = MakeSignsTrue l.past l.literals l.denied (take l.sign-index l.used) l.facts.items

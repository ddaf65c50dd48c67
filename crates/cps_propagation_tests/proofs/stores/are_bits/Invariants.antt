use Rattle.std.proofs.Common.{take}
use Rattle.std.specs.List.{All}
use Rattle.cps_propagation_tests.specs.Bits.{IsBit}
use Rattle.cps_propagation_tests.proofs.stores.are_bits.Given as goal

abbrev pub invariant-loop-atom : goal.invariant-loop-atom
invariant-loop-atom l = All (IsBit l.from l.to) (take l.atom-index l.atoms)

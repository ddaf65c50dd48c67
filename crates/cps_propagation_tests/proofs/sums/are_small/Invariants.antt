use Rattle.std.proofs.Common.{take}
use Rattle.std.specs.List.{All}
use Rattle.cps_propagation_tests.specs.Sums.{IsSmallTerm}
use Rattle.cps_propagation_tests.proofs.sums.are_small.Given as goal

abbrev pub invariant-loop-term : goal.invariant-loop-term
invariant-loop-term l = All IsSmallTerm (take l.term-index l.terms)

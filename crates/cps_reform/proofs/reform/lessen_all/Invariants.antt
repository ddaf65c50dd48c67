use Rattle.std.proofs.Common.{◌≡◌, ◌++◌, take, drop, map}
use Rattle.cps_reform.specs.Cores.{lessened}
use Rattle.cps_reform.proofs.reform.lessen_all.Given as goal

abbrev pub invariant-loop-term : goal.invariant-loop-term
invariant-loop-term l = l.terms ≡ map (lessened l.weight) (take l.term-index l.initial.terms) ++ drop l.term-index l.initial.terms

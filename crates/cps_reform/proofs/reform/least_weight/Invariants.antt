use Rattle.std.proofs.Common.{◌≡◌, ◌<◌, ◌^◌, drop}
use Rattle.std.specs.Prelude.{min}
use Rattle.cps_reform.specs.Cores.{least_weight}
use Rattle.cps_reform.proofs.reform.least_weight.Given as goal

abbrev pub invariant-loop-term : goal.invariant-loop-term
invariant-loop-term l = record { is : least_weight l.terms ≡ min l.least (least_weight (drop l.term-index l.terms)); few : l.least < 2 ^ 64 }

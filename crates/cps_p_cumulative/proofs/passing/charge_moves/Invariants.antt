use Rattle.std.proofs.Common.{take}
use Rattle.cps_instance.specs.Tasks.{subjects_of_body}
use Rattle.cps_p_cumulative.specs.Levels.{AreAdded, moves_of, tank_body}
use Rattle.cps_p_cumulative.specs.Relying.{Relies}
use Rattle.cps_p_cumulative.proofs.passing.charge_moves.Given as goal

abbrev pub invariant-loop-k : goal.invariant-loop-k
invariant-loop-k l = Relies l.past l.case.assumed (subjects_of_body (tank_body l.tank)) (AreAdded l.side l.case.time (take l.k (moves_of l.tank)) l.sum) l.fn.facts.items l.facts.items

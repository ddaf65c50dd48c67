use Rattle.std.specs.List.{All}
use Rattle.cps_rule.specs.Rules.{IsGiven}
use Rattle.cps_p_cumulative.specs.Levels.{tank_body}
use Rattle.cps_p_cumulative.proofs.reservoir.propose_at.Given as goal

abbrev pub invariant-loop-j : goal.invariant-loop-j
invariant-loop-j l = All (λ n. IsGiven (tank_body l.tank) l.past n.target) l.found.items

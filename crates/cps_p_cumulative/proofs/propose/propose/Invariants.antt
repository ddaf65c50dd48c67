use Rattle.std.specs.List.{All}
use Rattle.cps_rule.specs.Rules.{IsGiven}
use Rattle.cps_p_cumulative.specs.Running.{body_of}
use Rattle.cps_p_cumulative.proofs.propose.propose.Given as goal

abbrev pub invariant-loop-k : goal.invariant-loop-k
invariant-loop-k l = All (λ n. IsGiven (body_of l.resource) l.past n.target) l.found.items

use Rattle.std.specs.List.{All}
use Rattle.cps_rule.specs.Rules.{IsGiven}
use Rattle.cps_p_cumulative.specs.Running.{body_of}
use Rattle.cps_p_cumulative.proofs.propose.offer_each.Given as goal

abbrev pub invariant-loop-one : goal.invariant-loop-one
invariant-loop-one l = All (λ n. IsGiven (body_of l.resource) l.past n.target) l.found.items

use Rattle.std.proofs.Common.{◌≡◌, map, take}
use Rattle.cps_clauses.proofs.forget.in_turn.Given as goal

abbrev pub invariant-loop-candidate : goal.invariant-loop-candidate
invariant-loop-candidate l = l.order.items ≡ map (λ c. c.place) (take l.candidate-index l.candidate-items)

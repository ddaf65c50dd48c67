use Rattle.std.proofs.Common.{ℕ, ◌<◌, ◌≤◌, length}
use Rattle.cps_clauses.specs.InForce.{IsNumberInForce}
use Rattle.cps_clauses.specs.Watches.{clause_of}
use Rattle.cps_clauses.proofs.empty.empty_from.Given as goal

abbrev pub invariant-loop-number : goal.invariant-loop-number
invariant-loop-number l = (i : ℕ) → l.from ≤ i → i < l.number → IsNumberInForce l.clauses l.dropped i → 1 ≤ length (clause_of l.clauses i)

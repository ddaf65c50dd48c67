use Rattle.cps_clauses.proofs.NamedClauses.{AreNamed}
use Rattle.cps_clauses.proofs.forget.named_clauses.Given as goal

abbrev pub invariant-loop-view : goal.invariant-loop-view
invariant-loop-view l = AreNamed l.store l.view-index l.count l.named.items

use Rattle.cps_clauses.specs.Falls.{AreLastTwo}
use Rattle.cps_clauses.proofs.falls.last_two_listed.Given as goal

abbrev pub invariant-loop-i : goal.invariant-loop-i
invariant-loop-i l = AreLastTwo l.store l.atoms l.i l.two

use Rattle.std.specs.Prelude.{◌≤◌}
use Rattle.cps_conflict.specs.Antecedents.{PassedSoFar}
use Rattle.cps_conflict.proofs.certifier.Certifier.is_worn_away.Given as goal

abbrev pub invariant-loop-found : goal.invariant-loop-found
invariant-loop-found l = record {
  within : l.found ≤ l.last;
  so_far : PassedSoFar l.store l.self.clause.items l.self.known.items l.atom l.count l.found;
}

abbrev pub decreases-loop-found : goal.decreases-loop-found
decreases-loop-found l = l.found

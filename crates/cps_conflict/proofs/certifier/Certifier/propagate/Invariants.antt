use Rattle.std.specs.Prelude.{◌≡◌}
use Rattle.cps_conflict.specs.Leading.{IsFetched}
use Rattle.cps_conflict.specs.Antecedents.{AreForcedSoFar}
use Rattle.cps_conflict.proofs.certifier.Certifier.propagate.Given as goal

abbrev pub invariant-loop : goal.invariant-loop
invariant-loop g l = record {
  clause : l.self.clause ≡ l.fn.self.clause;
  so_far : AreForcedSoFar (IsFetched (g.E.Explain.makes l.explain l.store) l.store) l.store l.self.clause.items l.self.known.items l.found.items;
}

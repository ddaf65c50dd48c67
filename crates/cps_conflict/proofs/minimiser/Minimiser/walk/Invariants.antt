use Rattle.std.proofs.Common.{◌≡◌}
use Rattle.cps_conflict.specs.Conflicts.{AreTrueReasons}
use Rattle.cps_conflict.specs.Nodes.{AreNodes}
use Rattle.cps_conflict.proofs.minimiser.Minimiser.walk.Given as goal

abbrev pub invariant-loop : goal.invariant-loop
invariant-loop g l = record { nodes : AreNodes (AreTrueReasons (g.E.Explain.makes l.explain l.store) l.store) l.store l.resolvent.earlier l.self; assert : l.self.assert ≡ l.fn.self.assert }

use Rattle.std.proofs.Common.{◌≡◌, take}
use Rattle.cps_conflict.specs.Conflicts.{AreTrueReasons}
use Rattle.cps_conflict.specs.Drafts.{Collects}
use Rattle.cps_conflict.specs.Nodes.{AreNodes}
use Rattle.cps_conflict.proofs.minimiser.Minimiser.collect.Given as goal

abbrev pub invariant-loop-fallen : goal.invariant-loop-fallen
invariant-loop-fallen g l = record {
  nodes : AreNodes (AreTrueReasons (g.E.Explain.makes l.explain l.store) l.store) l.store l.resolvent.earlier l.self;
  assert : l.self.assert ≡ l.fn.self.assert;
  collects : Collects (AreTrueReasons (g.E.Explain.makes l.explain l.store) l.store) l.store l.resolvent.start l.resolvent.earlier l.fn.self.assert (take l.fallen-index l.fallen-items) l.atoms.items l.latest;
}

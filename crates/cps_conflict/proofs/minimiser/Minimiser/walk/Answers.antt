use Rattle.std.proofs.Common.{refl, ◌∙◌}
use Rattle.cps_conflict.specs.Conflicts.{AreTrueReasons}
use Rattle.cps_conflict.proofs.Minimising.{AreNodes-kept, AreNodes-carried, ExtendsPending-refl}
use Rattle.cps_conflict.proofs.minimiser.Minimiser.walk.Goals as goal

pub enter-requires-clause-nodes : goal.enter-requires-clause-nodes
enter-requires-clause-nodes g c = AreNodes-kept (AreTrueReasons (g.E.Explain.makes c.args.explain.now c.args.store.now) c.args.store.now) c.args.store.now c.args.resolvent.now.earlier c.args.self.now _ refl refl (ExtendsPending-refl c.args.self.now.pending.items) c.requires.nodes

pub returns-clause-nodes : goal.returns-clause-nodes
returns-clause-nodes g c = AreNodes-carried (AreTrueReasons (g.E.Explain.makes c.args.explain.now c.args.store.now) c.args.store.now) c.args.store.now c.args.resolvent.now.earlier c.loop.self c.fail.new.self c.fail.ensures c.loop.invariant.nodes

pub returns-clause-assert : goal.returns-clause-assert
returns-clause-assert g c = c.fail.ensures.assert ∙ c.loop.invariant.assert

use Rattle.std.proofs.Common.{refl, ◌∙◌}
use Rattle.cps_conflict.specs.Conflicts.{AreTrueReasons}
use Rattle.cps_conflict.proofs.Minimising.{AreNodes-kept, AreNodes-carried, ExtendsPending-refl}
use Rattle.cps_conflict.proofs.minimiser.Minimiser.step.Goals as goal

pub enter-requires-clause-nodes : goal.enter-requires-clause-nodes
enter-requires-clause-nodes g c = AreNodes-carried (AreTrueReasons (g.E.Explain.makes c.args.explain.now c.args.store.now) c.args.store.now) c.args.store.now c.args.resolvent.now.earlier c.args.self.now c.pass.new.self c.pass.ensures c.requires.nodes

pub returns-in_default-pass-clause-nodes : goal.returns-in_default-pass-clause-nodes
returns-in_default-pass-clause-nodes g c =
    AreNodes-kept (AreTrueReasons (g.E.Explain.makes c.args.explain.now c.args.store.now) c.args.store.now) c.args.store.now c.args.resolvent.now.earlier c.pass.new.self _ refl refl (ExtendsPending-refl c.pass.new.self.pending.items)
    (AreNodes-carried (AreTrueReasons (g.E.Explain.makes c.args.explain.now c.args.store.now) c.args.store.now) c.args.store.now c.args.resolvent.now.earlier c.args.self.now c.pass.new.self c.pass.ensures c.requires.nodes)

pub returns-clause-assert : goal.returns-clause-assert
returns-clause-assert g c = c.in_ok-goes_on.ensures.assert ∙ c.pass.ensures.assert

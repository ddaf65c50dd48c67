use Rattle.std.proofs.Common.{subst, arith}
use Rattle.cps_conflict.specs.Conflicts.{AreTrueReasons}
use Rattle.cps_conflict.specs.Drafts.{IsRedundant}
use Rattle.cps_conflict.proofs.Minimising.{IsRedundant-led}
use Rattle.cps_conflict.proofs.minimiser.Minimiser.is_redundant.Goals as goal

pub returns-in-Some-clause-redundant : goal.returns-in-Some-clause-redundant
returns-in-Some-clause-redundant g c = λ h.
    subst (λ t. IsRedundant (AreTrueReasons (g.E.Explain.makes c.args.explain.now c.args.store.now) c.args.store.now) c.args.store.now c.args.resolvent.now.earlier t c.args.fallen) c.in_ok-walk.ensures.assert
    (IsRedundant-led (AreTrueReasons (g.E.Explain.makes c.args.explain.now c.args.store.now) c.args.store.now) c.args.store.now c.args.resolvent.now.earlier c.walk.new.self c.args.fallen c.in-Some.latest c.in_ok-walk.ensures.nodes (λ others a nodes on. c.in-Some.ensures others a nodes on) (omega (arith, c.if-latest-fallen.true)))

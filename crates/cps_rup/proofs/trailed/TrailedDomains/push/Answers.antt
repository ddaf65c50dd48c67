-- The new domain has its least value.
use Rattle.cps_rup.proofs.Trailing.{pushed_trailed}
use Rattle.cps_rup.proofs.trailed.TrailedDomains.push.Goals as goal

pub invariant_of-self-2 : goal.invariant_of-self-2
invariant_of-self-2 c =
    pushed_trailed c.self.inside.domains.items c.args.domain c.min-least.result c.self.inside.trail.items c.clear.new.self.items c.push.new.self.items
    c.clear.ensures.items c.in_ok-push.ensures.items c.min-least.ensures.within c.self.invariant

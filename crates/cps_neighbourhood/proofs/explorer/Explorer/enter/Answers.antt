use Rattle.std.proofs.Common.{length, refl, subst}
use Rattle.cps_trail.specs.Trail.{Trail, IsSoundTrail}
use Rattle.cps_neighbourhood.specs.Rounds.{freed}
use Rattle.cps_neighbourhood.proofs.ExplorerInvariants.{begins}
use Rattle.cps_neighbourhood.proofs.explorer.Explorer.enter.Goals as goal

pub returns-in_ok-self-clause-exploring : goal.returns-in_ok-self-clause-exploring
returns-in_ok-self-clause-exploring g c =
    let k = c.in_ok-self.ensures in
    let x = c.args.self.now in
    begins x _ (freed (length x.aim.values.items) x.draws) c.requires.exploring c.if-not-self.true (subst (λ (t : Trail). IsSoundTrail t) c.store.ensures c.entries.ensures.sound) refl refl refl refl refl refl refl k.is k.held.0 k.held.1 k.place

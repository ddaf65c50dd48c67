-- The round made its next decision.
use Rattle.std.proofs.Common.{◌∙◌, inr, refl, ap}
use Rattle.cps_trail.specs.Trail.{Trail}
use Rattle.cps_search.specs.Searches.{Search}
use Rattle.cps_neighbourhood.specs.Exploring.{near_of}
use Rattle.cps_neighbourhood.proofs.ExplorerInvariants.{open_decided}
use Rattle.cps_neighbourhood.proofs.explorer.Explorer.decide_open.Goals as goal

pub returns-clause-exploring : goal.returns-clause-exploring
returns-clause-exploring g c =
    let d = c.in_ok-decide.ensures in
    open_decided c.args.self.now _ c.args.atom c.requires.exploring c.requires.due c.requires.in_round c.requires.open c.requires.begun d.decides d.sound refl refl refl refl refl refl refl refl refl
    (c.level-self.ensures.is ∙ ap (λ (t : Trail). t.level) c.store.ensures) refl

pub decide-requires-clause-assumptions : goal.decide-requires-clause-assumptions
decide-requires-clause-assumptions g c = inr c.requires.none_open

pub returns-clause-near : goal.returns-clause-near
returns-clause-near g c = ap (λ (s : Search). record (near_of c.args.self.now) { search = s }) c.in_ok-decide.ensures.decides

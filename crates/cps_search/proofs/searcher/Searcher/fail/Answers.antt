use Rattle.std.proofs.Common.{ap, inr, sym, subst, ◌∙◌}
use Rattle.cps_model.specs.declared.bound.Bound.{Bound}
use Rattle.cps_search.specs.Assumptions.{IsCoreBelow}
use Rattle.cps_search.specs.Moves.{exhausted}
use Rattle.cps_search.specs.Searches.{NoneBelow, Search}
use Rattle.cps_search.specs.Stepping.{Raises}
use Rattle.cps_search.proofs.TurnCauses.{stays_exhausted}
use Rattle.cps_search.proofs.searcher.Searcher.fail.Goals as goal

pub exhaust-requires-clause-none : goal.exhaust-requires-clause-none
exhaust-requires-clause-none g c = subst (λ (x : Search). NoneBelow x.instance.model x.z) (sym c.in_ok-close_on_assumption.ensures.is) c.in_ok-core.ensures.none

pub exhaust-requires-clause-core : goal.exhaust-requires-clause-core
exhaust-requires-clause-core g c = subst (λ (x : Search). IsCoreBelow x.instance.model x.z x.core) (sym c.in_ok-close_on_assumption.ensures.is) c.in_ok-core.ensures.below

pub exhaust-requires-clause-model : goal.exhaust-requires-clause-model
exhaust-requires-clause-model g c = c.requires.model ∙ ap (λ (x : Search). x.instance.model) (sym c.in_ok-close_on_assumption.ensures.is)

pub exhaust-requires-clause-sound : goal.exhaust-requires-clause-sound
exhaust-requires-clause-sound g c = c.in_ok-close_on_assumption.ensures.sound

pub exhaust-requires-clause-closed : goal.exhaust-requires-clause-closed
exhaust-requires-clause-closed g c = c.in_ok-close_on_assumption.ensures.closed

pub returns-clause-cause : goal.returns-clause-cause
returns-clause-cause g c =
    let s = c.args.self.now in
    let m = c.close_on_assumption.new.self in
    let e = c.exhaust.ensures in
    let i = c.in_ok-close_on_assumption.ensures in
    let k = c.in_ok-core.ensures in
    let core = c.in_ok-core.core in
    let p = (g.Q.Port.part c.args.port.now).bounds in
    let q = (g.Q.Port.part c.exhaust.new.port).bounds in
    stays_exhausted s c.exhaust.new.self (g.Q.Port.rows c.args.port.now) (g.Q.Port.part c.args.port.now) (g.Q.Port.part c.exhaust.new.port) core m.log i.logs k.none
    (inr (record { settled = c.requires.settled; failed = c.args.failed; is = c.requires.failed; core = k.core })) k.below
    (e.is ∙ ap (λ (x : Search). exhausted x x.core m.log) i.is)
    (subst (λ (z : Bound). Raises z p q) (ap (λ (x : Search). x.z) i.is) e.bounds) e.board

-- Each propagator that is added is the last of those that came out of the list.
use Rattle.std.proofs.Common.{ap, ◌∙◌}
use Rattle.cps_propagate.specs.Agenda.{Agenda}
use Rattle.cps_propagate.proofs.Agendas.{one_added}
use Rattle.cps_propagate.proofs.engine.Engine.new.Goals as goal

pub loop-propagator-preserved : goal.loop-propagator-preserved
loop-propagator-preserved g c =
    let i = c.loop-propagator.invariant in
    record {
      tasks = one_added g.P.Propagator.task c.loop-propagator.engine c.add.new.self c.loop-propagator.yielded c.in-Some.propagator i.tasks c.in_ok-add.ensures.adds;
      running = ap (λ (a : Agenda). a.refused) c.in_ok-add.ensures.adds ∙ i.running;
    }

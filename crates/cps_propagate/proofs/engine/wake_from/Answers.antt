use Rattle.cps_propagate.proofs.Visiting.{Rest-stepped, AreWoken-still}
use Rattle.cps_propagate.proofs.engine.wake_from.Goals as goal

pub returns-clause-rest : goal.returns-clause-rest
returns-clause-rest c =
    let e = c.in_ok-wake_each.ensures in
    λ tasks fits wired are_cuts in_step.
    Rest-stepped tasks c.args.readers.now c.args.cuts.now wired are_cuts c.args.store.now fits c.entries.ensures.sound c.args.from in_step c.wake_each.new.queue.waits
    (AreWoken-still _ _ _ _ _ _ c.in_ok-wake_readers.ensures.wait e.still) e.wait

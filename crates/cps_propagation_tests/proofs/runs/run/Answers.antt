use Rattle.std.proofs.Common.{subst, sym}
use Rattle.cps_instance.specs.declared.task.Task.{Task}
use Rattle.cps_instance.specs.Tasks.{HoldsTask}
use Rattle.cps_trail.specs.Notes.{ByTask}
use Rattle.cps_propagation_tests.specs.Noted.{AreNotesOf}
use Rattle.cps_propagation_tests.proofs.Noting.{inferred_fit}
use Rattle.cps_propagation_tests.proofs.runs.run.Goals as goal

pub last_reason-requires-clause-notes : goal.last_reason-requires-clause-notes
last_reason-requires-clause-notes g c =
    let task = g.P.Propagator.task in
    let h = c.in_ok-propagate.ensures in
    subst (λ (t : Task). AreNotesOf 7 t c.propagate.new.store) (sym h.keeps)
    (inferred_fit (ByTask 7 (HoldsTask (task c.args.propagator.now))) c.args.store.now c.propagate.new.store h.infers c.requires.notes)

pub returns-in_ok-reason-in-NoConflict-clause-notes : goal.returns-in_ok-reason-in-NoConflict-clause-notes
returns-in_ok-reason-in-NoConflict-clause-notes g c =
    inferred_fit (ByTask 7 (HoldsTask (g.P.Propagator.task c.args.propagator.now))) c.args.store.now c.propagate.new.store c.in_ok-propagate.ensures.infers c.requires.notes

pub returns-in-Conflict-clause-notes : goal.returns-in-Conflict-clause-notes
returns-in-Conflict-clause-notes g c =
    inferred_fit (ByTask 7 (HoldsTask (g.P.Propagator.task c.args.propagator.now))) c.args.store.now c.propagate.new.store c.in_ok-propagate.ensures.infers c.requires.notes

use Rattle.std.proofs.Common.{subst, sym}
use Rattle.cps_instance.specs.declared.task.Task.{Task}
use Rattle.cps_instance.specs.Tasks.{HoldsTask}
use Rattle.cps_trail.specs.Notes.{ByTask}
use Rattle.cps_rule_tests.specs.Noted.{AreNotesOfRule}
use Rattle.cps_rule_tests.proofs.Noting.{inferred_fit}
use Rattle.cps_rule_tests.proofs.runs.settle.Goals as goal

pub last_reason-requires-clause-notes : goal.last_reason-requires-clause-notes
last_reason-requires-clause-notes g c =
    let h = c.in_ok-propagate.ensures in
    subst (λ (t : Task). AreNotesOfRule 7 t c.propagate.new.store) (sym h.keeps)
    (inferred_fit (ByTask 7 (HoldsTask (g.P.Propagator.task c.args.propagator.now))) c.args.store.now c.propagate.new.store h.infers c.requires.notes)

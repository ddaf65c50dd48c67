use Rattle.std.proofs.Common.{◌≡◌}
use Rattle.cps_instance.specs.Tasks.{HoldsTask}
use Rattle.cps_trail.specs.Adds.{Infers}
use Rattle.cps_trail.specs.Notes.{ByTask}
use Rattle.cps_trail.specs.Trail.{open_values}
use Rattle.cps_enforce.specs.Reasons.{task_of}
use Rattle.cps_enforce.proofs.settle.settle.Given as goal

abbrev pub invariant-loop-store : goal.invariant-loop-store
invariant-loop-store g l =
    let b = g.R.Rule.body l.fn.rule in
    record {
      keeps : g.R.Rule.body l.rule ≡ b;
      infers : Infers (ByTask l.fn.header.number (HoldsTask (task_of l.fn.header.enforcement.now b))) l.fn.store l.store;
    }

abbrev pub decreases-loop-store : goal.decreases-loop-store
decreases-loop-store g l = open_values l.store.first l.store.entries

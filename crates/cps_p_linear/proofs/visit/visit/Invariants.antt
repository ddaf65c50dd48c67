use Rattle.std.specs.Prelude.{IfSome}
use Rattle.cps_trail.specs.Adds.{Infers}
use Rattle.cps_trail.specs.Notes.{ByTask}
use Rattle.cps_trail.specs.Trail.{open_values}
use Rattle.cps_propagate.specs.Recalling.{Recalls}
use Rattle.cps_p_linear.specs.Gauging.{memory_of, IsGaugeOf}
use Rattle.cps_p_linear.specs.Measuring.{Asks}
use Rattle.cps_p_linear.proofs.visit.visit.Given as goal

abbrev pub invariant-loop-store : goal.invariant-loop-store
invariant-loop-store l = record {
  infers : Infers (ByTask l.number (Asks l.fn.task)) l.fn.store l.store;
  gauge : IsGaugeOf l.fn.task.terms.now l.scratch.gauge;
  recalls : IfSome l.standing (Recalls (memory_of l.fn.task.terms.now l.scratch.gauge) l.store);
}

abbrev pub decreases-loop-store : goal.decreases-loop-store
decreases-loop-store l = open_values l.store.first l.store.entries

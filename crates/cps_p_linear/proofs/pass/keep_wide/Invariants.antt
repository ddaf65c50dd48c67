use Rattle.cps_trail.specs.Adds.{Infers}
use Rattle.cps_trail.specs.Notes.{ByTask}
use Rattle.cps_p_linear.specs.Measuring.{Asks}
use Rattle.cps_p_linear.proofs.WideTerms.{ListedInRoom}
use Rattle.cps_p_linear.proofs.pass.keep_wide.Given as goal

abbrev pub invariant-loop-listed : goal.invariant-loop-listed
invariant-loop-listed l = record {
  infers : Infers (ByTask l.number (Asks l.fn.wide.measured.task)) l.fn.store l.store;
  rooms : ListedInRoom l.store l.fn.wide.measured.sum l.fn.wide.goal l.fn.wide.measured.task.terms.now l.fn.wide.measured.values.now l.fn.wide.places.now l.listed;
}

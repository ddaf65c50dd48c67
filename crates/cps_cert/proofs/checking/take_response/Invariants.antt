-- The lines so far are accepted.
use Rattle.std.proofs.Common.{length}
use Rattle.cps_cert.specs.Lines.{at_status}
use Rattle.cps_cert.specs.Progress.{Passes}
use Rattle.cps_cert.specs.ResponsePhases.{phase_of, HasNearOptimum}
use Rattle.cps_cert.proofs.checking.take_response.Given as goal

abbrev pub invariant-loop-line : goal.invariant-loop-line
invariant-loop-line l = record {
  passes : Passes l.model at_status l.fn.start.rest.now l.fn.start.number (phase_of l.phase) l.cursor.rest.now l.cursor.number;
  near : HasNearOptimum l.phase;
}

abbrev pub decreases-loop-line : goal.decreases-loop-line
decreases-loop-line l = length l.cursor.rest.now

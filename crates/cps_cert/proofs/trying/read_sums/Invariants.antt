-- What is left to be read makes the whole with what was read.
use Rattle.std.proofs.Common.{◌≡◌, length, drop}
use Rattle.cps_cert.specs.declared.assignments.Assignments.{Assignments}
use Rattle.cps_cert.specs.Counting.{sum_variables}
use Rattle.cps_cert.specs.Trying.{ReadsOn}
use Rattle.cps_cert.proofs.trying.read_sums.Given as goal

abbrev pub invariant-loop-atom : goal.invariant-loop-atom
invariant-loop-atom l = record {
  long : length l.assignments.values.items ≡ length l.fn.assignments.values.items;
  rest : (new : Assignments) → ReadsOn l.trial.domains.now l.assignments (sum_variables l.trial.model.now.variables l.trial.sums.now (drop l.atom-index l.atom-items)) new → ReadsOn l.trial.domains.now l.fn.assignments (sum_variables l.trial.model.now.variables l.trial.sums.now l.trial.clause.now) new;
}

-- What is left to be read makes the whole with what was read.
use Rattle.std.proofs.Common.{◌≡◌, length, drop}
use Rattle.cps_cert.specs.declared.assignments.Assignments.{Assignments}
use Rattle.cps_cert.specs.Trying.{named_variables}
use Rattle.cps_cert.specs.Trying.{ReadsOn}
use Rattle.cps_cert.proofs.assignments.Assignments.read_intervals.Given as goal

abbrev pub invariant-loop-index : goal.invariant-loop-index
invariant-loop-index l = record {
  long : length l.self.values.items ≡ length l.fn.self.values.items;
  rest : (new : Assignments) → ReadsOn l.domains l.self (named_variables l.constraints (drop l.index-index l.indices)) new → ReadsOn l.domains l.fn.self (named_variables l.constraints l.indices) new;
}

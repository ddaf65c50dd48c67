-- What is left to be read makes the whole with what was read.
use Rattle.std.proofs.Common.{◌≡◌, length, drop}
use Rattle.cps_cert.specs.declared.assignments.Assignments.{Assignments}
use Rattle.std.specs.List.{flat_map}
use Rattle.cps_cert.specs.Counting.{variables_of_sum}
use Rattle.cps_cert.specs.Trying.{ReadsOn}
use Rattle.cps_cert.proofs.assignments.Assignments.read_sums.Given as goal

abbrev pub invariant-loop-sum : goal.invariant-loop-sum
invariant-loop-sum l = record {
  long : length l.self.values.items ≡ length l.fn.self.values.items;
  rest : (new : Assignments) → ReadsOn l.domains l.self (flat_map variables_of_sum (drop l.sum-index l.sums)) new → ReadsOn l.domains l.fn.self (flat_map variables_of_sum l.sums) new;
}

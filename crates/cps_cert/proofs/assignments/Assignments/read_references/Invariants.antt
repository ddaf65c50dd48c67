-- What is left to be read makes the whole with what was read.
use Rattle.std.proofs.Common.{◌≡◌, length, drop}
use Rattle.cps_cert.specs.declared.assignments.Assignments.{Assignments}
use Rattle.cps_cert.specs.Counting.{variables_of}
use Rattle.cps_cert.specs.Trying.{ReadsOn}
use Rattle.cps_cert.proofs.assignments.Assignments.read_references.Given as goal

abbrev pub invariant-loop-reference : goal.invariant-loop-reference
invariant-loop-reference l = record {
  long : length l.self.values.items ≡ length l.fn.self.values.items;
  rest : (new : Assignments) → ReadsOn l.domains l.self (variables_of (drop l.reference-index l.references)) new → ReadsOn l.domains l.fn.self (variables_of l.references) new;
}

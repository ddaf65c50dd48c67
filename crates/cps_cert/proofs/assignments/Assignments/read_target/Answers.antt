-- One part after another.
use Rattle.std.specs.List.{flat_map}
use Rattle.cps_cert.specs.Counting.{variables_of_sum}
use Rattle.cps_cert.proofs.Steps.{on_ok, reads_then}
use Rattle.cps_cert.proofs.assignments.Assignments.read_target.Goals as goal

pub returns-clause-read : goal.returns-clause-read
returns-clause-read c = on_ok c.read_sums.result (λ g. reads_then c.args.domains.now c.args.self.now c.read_sum.new.self c.read_sums.new.self (variables_of_sum c.args.target.now) (flat_map variables_of_sum c.args.sums.now) c.in_ok-read_sum.ensures.read g) c.read_sums.ensures.read

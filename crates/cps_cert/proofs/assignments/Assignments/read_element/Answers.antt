-- One part after another.
use Rattle.std.specs.List.{flat_map}
use Rattle.std.proofs.Common.{◌++◌}
use Rattle.cps_cert.specs.Counting.{variables_of_sum}
use Rattle.cps_cert.proofs.Steps.{on_ok, reads_then}
use Rattle.cps_cert.proofs.assignments.Assignments.read_element.Goals as goal

pub returns-clause-read : goal.returns-clause-read
returns-clause-read c = on_ok c.read_exprs.result (λ g. (
    let rest = reads_then c.args.domains.now c.read_sum.new.self c.read_sum-2.new.self c.read_exprs.new.self (variables_of_sum c.args.target.now) (flat_map variables_of_sum c.args.exprs.now) c.in_ok-read_sum-2.ensures.read g in
    reads_then c.args.domains.now c.args.self.now c.read_sum.new.self c.read_exprs.new.self (variables_of_sum c.args.index.now) (variables_of_sum c.args.target.now ++ flat_map variables_of_sum c.args.exprs.now) c.in_ok-read_sum.ensures.read rest))
    c.read_exprs.ensures.read

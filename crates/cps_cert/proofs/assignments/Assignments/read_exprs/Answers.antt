-- One part after another.
use Rattle.std.specs.List.{flat_map}
use Rattle.std.proofs.Common.{◌++◌}
use Rattle.cps_cert.specs.Counting.{variables_of, variables_of_sum}
use Rattle.cps_cert.proofs.Steps.{on_ok, reads_then, reads_same, exprs_variables}
use Rattle.cps_cert.proofs.assignments.Assignments.read_exprs.Goals as goal

pub returns-clause-read : goal.returns-clause-read
returns-clause-read c = on_ok c.read_references.result (λ g. (
    let written = c.parts.result.0.now in
    let references = c.parts.result.1.now in
    let both = reads_then c.args.domains.now c.args.self.now c.read_sums.new.self c.read_references.new.self (flat_map variables_of_sum written) (variables_of references) c.in_ok-read_sums.ensures.read g in
    reads_same c.args.domains.now c.args.self.now c.read_references.new.self (flat_map variables_of_sum written ++ variables_of references) (flat_map variables_of_sum c.args.exprs.now) (exprs_variables written references c.args.exprs.now c.parts.ensures) both))
    c.read_references.ensures.read

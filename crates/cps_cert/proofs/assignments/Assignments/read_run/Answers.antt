-- One part after another.
use Rattle.std.proofs.Common.{◌++◌, sym, ap}
use Rattle.cps_cert.specs.Counting.{variables_of_sum, variables_of_run}
use Rattle.cps_cert.proofs.Steps.{on_ok, reads_then, reads_same}
use Rattle.cps_cert.proofs.assignments.Assignments.read_run.Goals as goal

pub returns-clause-read : goal.returns-clause-read
returns-clause-read c = on_ok c.read_sum-2.result (λ g. (
    let start = variables_of_sum c.in-Interval.start in
    let end = variables_of_sum c.in-Interval.end in
    reads_same c.args.domains.now c.args.self.now c.read_sum-2.new.self (start ++ end) (variables_of_run c.args.kind.now) (sym (ap variables_of_run c.in-Interval.is))
    (reads_then c.args.domains.now c.args.self.now c.read_sum.new.self c.read_sum-2.new.self start end c.in_ok-read_sum.ensures.read g)))
    c.read_sum-2.ensures.read

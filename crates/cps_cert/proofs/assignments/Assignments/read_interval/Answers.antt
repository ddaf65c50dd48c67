-- One part after another.
use Rattle.std.proofs.Common.{◌++◌, [], sym}
use Rattle.cps_cert.specs.Counting.{variables_of_sum}
use Rattle.std.proofs.lemmas.List.{append-nil}
use Rattle.cps_cert.proofs.Steps.{on_ok, reads_then, reads_same}
use Rattle.cps_cert.proofs.assignments.Assignments.read_interval.Goals as goal

pub returns-clause-read : goal.returns-clause-read
returns-clause-read c = on_ok c.read_sum-3.result (λ g. (
    let size = variables_of_sum c.args.size.now in
    let end = variables_of_sum c.args.end.now in
    let last = reads_same c.args.domains.now c.read_sum-2.new.self c.read_sum-3.new.self size (size ++ []) (sym (append-nil size)) g in
    let rest = reads_then c.args.domains.now c.read_sum.new.self c.read_sum-2.new.self c.read_sum-3.new.self end (size ++ []) c.in_ok-read_sum-2.ensures.read last in
    reads_then c.args.domains.now c.args.self.now c.read_sum.new.self c.read_sum-3.new.self (variables_of_sum c.args.start.now) (end ++ (size ++ [])) c.in_ok-read_sum.ensures.read rest))
    c.read_sum-3.ensures.read

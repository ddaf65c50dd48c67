-- One part after another.
use Rattle.std.specs.List.{flat_map}
use Rattle.std.proofs.Common.{◌++◌, sym}
use Rattle.cps_cert.specs.Counting.{variables_of, variables_of_sum}
use Rattle.std.proofs.lemmas.List.Concat.{flat_map-append}
use Rattle.cps_cert.proofs.Steps.{on_ok, reads_then, reads_same}
use Rattle.cps_cert.proofs.assignments.Assignments.read_reservoir.Goals as goal

pub returns-clause-read : goal.returns-clause-read
returns-clause-read c = on_ok c.read_sums-2.result (λ g. (
    let times = flat_map variables_of_sum c.args.times.now in
    let changes = flat_map variables_of_sum c.args.changes.now in
    let both = flat_map variables_of_sum (c.args.times.now ++ c.args.changes.now) in
    let rest = reads_then c.args.domains.now c.read_references.new.self c.read_sums.new.self c.read_sums-2.new.self times changes c.in_ok-read_sums.ensures.read g in
    let sums = reads_same c.args.domains.now c.read_references.new.self c.read_sums-2.new.self (times ++ changes) both (sym (flat_map-append variables_of_sum c.args.times.now c.args.changes.now)) rest in
    reads_then c.args.domains.now c.args.self.now c.read_references.new.self c.read_sums-2.new.self (variables_of c.args.active.now) both c.in_ok-read_references.ensures.read sums))
    c.read_sums-2.ensures.read

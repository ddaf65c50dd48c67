-- One part after another.
use Rattle.std.proofs.Common.{◌++◌, sym}
use Rattle.cps_cert.specs.Counting.{variables_of}
use Rattle.std.proofs.lemmas.List.{map-append}
use Rattle.cps_model.specs.Values.{variable_of}
use Rattle.cps_cert.proofs.Steps.{on_ok, reads_then, reads_same}
use Rattle.cps_cert.proofs.assignments.Assignments.read_both.Goals as goal

pub returns-clause-read : goal.returns-clause-read
returns-clause-read c = on_ok c.read_references-2.result (λ g. (
    let first = variables_of c.args.first.now in
    let second = variables_of c.args.second.now in
    let both = reads_then c.args.domains.now c.args.self.now c.read_references.new.self c.read_references-2.new.self first second c.in_ok-read_references.ensures.read g in
    reads_same c.args.domains.now c.args.self.now c.read_references-2.new.self (first ++ second) (variables_of (c.args.first.now ++ c.args.second.now)) (sym (map-append variable_of c.args.first.now c.args.second.now)) both))
    c.read_references-2.ensures.read

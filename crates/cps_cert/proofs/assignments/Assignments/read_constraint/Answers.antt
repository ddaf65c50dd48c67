-- One part after another.
use Rattle.std.proofs.Common.{◌++◌, List, sym, ◌∙◌, ap, subst, ℤ, ℕ}
use Rattle.std.specs.List.{flat_map}
use Rattle.std.proofs.lemmas.List.{map-append, append_assoc}
use Rattle.cps_model.specs.Values.{variable_of}
use Rattle.cps_model.specs.Rules.{literals_of, references_of, sums_of, intervals_of}
use Rattle.cps_cert.specs.Counting.{variables_of, variables_of_sum, read_variables}
use Rattle.cps_cert.specs.Trying.{kind_variables, named_variables, ReadsOn}
use Rattle.cps_cert.proofs.Steps.{on_ok, reads_then, reads_same}
use Rattle.cps_cert.proofs.assignments.Assignments.read_constraint.Goals as goal

pub returns-clause-read : goal.returns-clause-read
returns-clause-read c = on_ok c.read_kind_intervals.result (λ g. (
    let kind = c.args.constraint.now.kind in
    let enforcement = variables_of c.args.constraint.now.enforcement in
    let others = variables_of (literals_of kind ++ references_of kind) in
    let sums = flat_map variables_of_sum (sums_of kind) in
    let named = named_variables c.args.constraints.now (intervals_of kind) in
    let first = subst (λ (xs : List ℤ). ReadsOn c.args.domains.now c.args.self.now (variables_of xs) c.read_references.new.self) c.as_slice.ensures c.in_ok-read_references.ensures.read in
    let rest = reads_then c.args.domains.now c.read_references.new.self c.read_kind.new.self c.read_kind_intervals.new.self (kind_variables kind) named c.in_ok-read_kind.ensures.read g in
    let whole = reads_then c.args.domains.now c.args.self.now c.read_references.new.self c.read_kind_intervals.new.self enforcement (kind_variables kind ++ named) first rest in
    let same = ap (λ (xs : List ℕ). (xs ++ sums) ++ named) (map-append variable_of c.args.constraint.now.enforcement (literals_of kind ++ references_of kind))
    ∙ ap (λ (xs : List ℕ). xs ++ named) (append_assoc enforcement others sums) ∙ append_assoc enforcement (kind_variables kind) named in
    reads_same c.args.domains.now c.args.self.now c.read_kind_intervals.new.self (enforcement ++ (kind_variables kind ++ named)) (read_variables c.args.constraints.now c.args.constraint.now) (sym same) whole))
    c.read_kind_intervals.ensures.read

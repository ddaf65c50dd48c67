-- The intervals of both directions.
use Rattle.std.proofs.Common.{◌++◌, List, sym, ◌∙◌, ap, subst, ℤ}
use Rattle.std.proofs.lemmas.List.Concat.{flat_map-append}
use Rattle.cps_model.specs.declared.constraint.Kind.{Kind}
use Rattle.cps_model.specs.Rules.{intervals_of}
use Rattle.cps_model.specs.Scheduling.{constraint_at}
use Rattle.cps_cert.specs.Counting.{variables_of_named}
use Rattle.cps_cert.specs.Trying.{named_variables, ReadsOn}
use Rattle.cps_cert.proofs.Steps.{on_ok, reads_then, reads_same}
use Rattle.cps_cert.proofs.assignments.Assignments.read_kind_intervals.Goals as goal

pub returns-in_ok-read_intervals-in-NoOverlap2d-clause-read : goal.returns-in_ok-read_intervals-in-NoOverlap2d-clause-read
returns-in_ok-read_intervals-in-NoOverlap2d-clause-read c = on_ok c.read_intervals-in-NoOverlap2d-2.result (λ g. (
    let cs = c.args.constraints.now in
    let x = c.in-NoOverlap2d.x in
    let y = c.in-NoOverlap2d.y in
    let middle = c.read_intervals-in-NoOverlap2d.new.self in
    let new = c.read_intervals-in-NoOverlap2d-2.new.self in
    let first = subst (λ (xs : List ℤ). ReadsOn c.args.domains.now c.args.self.now (named_variables cs xs) middle) c.as_slice-in-NoOverlap2d.ensures c.in_ok-read_intervals-in-NoOverlap2d.ensures.read in
    let second = subst (λ (xs : List ℤ). ReadsOn c.args.domains.now middle (named_variables cs xs) new) c.as_slice-in-NoOverlap2d-2.ensures g in
    let both = reads_then c.args.domains.now c.args.self.now middle new (named_variables cs x) (named_variables cs y) first second in
    let same = sym (flat_map-append (λ (i : ℤ). variables_of_named (constraint_at cs i)) x y) ∙ ap (λ (k : Kind). named_variables cs (intervals_of k)) (sym c.in-NoOverlap2d.is) in
    reads_same c.args.domains.now c.args.self.now new (named_variables cs x ++ named_variables cs y) (named_variables cs (intervals_of c.args.kind.now)) same both))
    c.read_intervals-in-NoOverlap2d-2.ensures.read

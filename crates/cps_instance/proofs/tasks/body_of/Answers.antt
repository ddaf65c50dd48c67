-- The subjects of kinds of two lists are those of the first and then those of the second.
use Rattle.std.proofs.Common.{length, map, sym, ap, ◌∙◌, arith}
use Rattle.std.proofs.Math.ListN.{length-append}
use Rattle.std.proofs.lemmas.List.{length-map}
use Rattle.cps_model.specs.declared.constraint.Kind.{Kind}
use Rattle.cps_model.specs.Values.{reference_expression}
use Rattle.cps_instance.specs.Posting.{span_at, body_of, expressions_of}
use Rattle.cps_instance.proofs.tasks.body_of.Goals as goal

pub inverse_body-requires : goal.inverse_body-requires
inverse_body-requires c =
    let a = c.in-Inverse in
    let each = c.requires.own.each ∙ ap (λ (k : Kind). length (expressions_of k)) a.is in
    let both = length-append (map reference_expression a.direct) (map reference_expression a.inverse) in
    let mapped = length-map a.direct reference_expression in
    let direct = c.len.ensures in
    omega arith

pub reservoir_body-requires : goal.reservoir_body-requires
reservoir_body-requires c =
    let a = c.in-Reservoir in
    let each = c.requires.own.each ∙ ap (λ (k : Kind). length (expressions_of k)) a.is in
    let both = length-append a.times a.changes in
    let times = c.len-in-Reservoir.ensures in
    omega arith

-- an interval takes its subjects as they are
pub returns-in-Interval : goal.returns-in-Interval
returns-in-Interval c = sym (ap (λ (k : Kind). body_of (span_at c.args.constraints.now c.args.lists.now) c.args.subjects.now k) c.in-Interval.is)

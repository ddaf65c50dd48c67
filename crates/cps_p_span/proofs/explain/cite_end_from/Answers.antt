-- The atom says when the span starts or ends; where there is none, nothing is promised.
use Rattle.cps_p_span.proofs.Refusing.{refused}
use Rattle.std.proofs.Common.{◌≤ℤ◌, FitsSigned}
use Rattle.std.proofs.lemmas.Int.{to_z-of_z}
use mir.Syntax.{w128}
use Rattle.cps_p_span.specs.Spans.{end_at}
use Rattle.cps_p_span.proofs.Citing.{cites_said}
use Rattle.cps_p_span.proofs.explain.cite_end_from.Goals as goal

pub returns-in-None : goal.returns-in-None
returns-in-None c e = refused e

pub returns-in-Some : goal.returns-in-Some
returns-in-Some c e =
    let f : FitsSigned w128 c.args.time = c.ranges.time in
    cites_said c.args.past.now c.args.facts.now.items c.cite.new.facts.items c.args.span.now c.in-Some.atom (λ xs. c.args.time ≤ℤ end_at xs c.args.span.now) (rw (to_z-of_z w128 c.args.time f) at c.in-Some.ensures) (c.cite.ensures.yes e)

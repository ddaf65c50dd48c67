-- The length is fixed, or follows from the least end and a greatest start.
use Rattle.std.proofs.Common.{Ok, ◌≡◌, true, ◌≤ℤ◌, rules, FitsSigned, arith}
use Rattle.std.proofs.lemmas.Int.{ints, to_z-of_z}
use mir.Syntax.{w128}
use Rattle.cps_p_span.specs.Spans.{start_at, end_at}
use Rattle.cps_p_nooverlap.specs.Crowds.{LastsAt}
use Rattle.cps_p_span.proofs.Citing.{cites_none, cites_then, cites_as}
use Rattle.cps_p_span.proofs.Refusing.{refused}
use Rattle.cps_p_nooverlap.proofs.windows.cite_length.Goals as goal
use Rattle.cps_instance.specs.Tasks.{subjects_of_span}

pub returns-then-lasts : goal.returns-then-lasts
returns-then-lasts c e = cites_none c.args.past.now (subjects_of_span c.args.span.now) c.args.facts.now.items _ (λ xs. c.lasts.ensures c.if-lasts.true xs)

pub returns-else-not-branch : goal.returns-else-not-branch
returns-else-not-branch c e =
    let s = c.args.past.now in
    let a = c.args.facts.now.items in
    let b = c.cite_end_from.new.facts.items in
    let d = c.cite_start_up_to.new.facts.items in
    let k = c.in-Some.ensures in
    let f : FitsSigned w128 c.least_end-end.result = search rules in
    let g : FitsSigned w128 c.in-Some.start = search rules in
    let one : c.cite_end_from.result ≡ Ok true = search rules in
    let first = rw (to_z-of_z w128 c.least_end-end.result f) at (c.cite_end_from.ensures one) in
    let second = rw (to_z-of_z w128 c.in-Some.start g) at (c.cite_start_up_to.ensures e) in
    cites_as s (subjects_of_span c.args.span.now) a d (λ xs. (c.least_end-end.result ≤ℤ end_at xs c.args.span.now) × (start_at xs c.args.span.now ≤ℤ c.in-Some.start)) (λ xs. LastsAt xs c.args.span.now c.args.weight)
    (λ xs h. (let p = h.0 in let q = h.1 in omega (arith, ints)))
    (cites_then s (subjects_of_span c.args.span.now) a b d (λ xs. c.least_end-end.result ≤ℤ end_at xs c.args.span.now) (λ xs. start_at xs c.args.span.now ≤ℤ c.in-Some.start) first second)

pub returns-in-None : goal.returns-in-None
returns-in-None c e = refused e

pub returns-then-not-branch : goal.returns-then-not-branch
returns-then-not-branch c e = refused e

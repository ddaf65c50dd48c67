-- The one ends at a time or later, and the other starts before it.
use Rattle.std.proofs.Common.{◌++◌, Ok, ◌≡◌, true, ◌≤ℤ◌, ◌<ℤ◌, rules, FitsSigned, arith}
use Rattle.std.proofs.lemmas.Int.{ints, to_z-of_z}
use mir.Syntax.{w128}
use Rattle.cps_instance.specs.Tasks.{subjects_of_span}
use Rattle.cps_p_span.specs.Spans.{start_at, end_at}
use Rattle.cps_p_span.proofs.Citing.{cites_then, cites_as, cites_left, cites_right}
use Rattle.cps_p_span.proofs.Refusing.{refused}
use Rattle.cps_p_span.proofs.explain.cite_late.Goals as goal

pub returns-else-not-branch : goal.returns-else-not-branch
returns-else-not-branch c e =
    let s = c.args.past.now in
    let a = c.args.facts.now.items in
    let b = c.cite_end_from.new.facts.items in
    let d = c.cite_start_up_to.new.facts.items in
    let late = subjects_of_span c.args.late.now in
    let early = subjects_of_span c.args.early.now in
    let time = c.least_end-end.result in
    let start = c.in-Some.start in
    let k = c.in-Some.ensures in
    let f : FitsSigned w128 c.least_end-end.result = search rules in
    let g : FitsSigned w128 c.in-Some.start = search rules in
    let one : c.cite_end_from.result ≡ Ok true = search rules in
    let first = rw (to_z-of_z w128 c.least_end-end.result f) at (c.cite_end_from.ensures one) in
    let second = rw (to_z-of_z w128 c.in-Some.start g) at (c.cite_start_up_to.ensures e) in
    cites_as s (late ++ early) a d (λ xs. (c.least_end-end.result ≤ℤ end_at xs c.args.late.now) × (start_at xs c.args.early.now ≤ℤ c.in-Some.start)) (λ xs. start_at xs c.args.early.now <ℤ end_at xs c.args.late.now)
    (λ xs h. (let p = h.0 in let q = h.1 in omega (arith, ints)))
    (cites_then s (late ++ early) a b d (λ xs. c.least_end-end.result ≤ℤ end_at xs c.args.late.now) (λ xs. start_at xs c.args.early.now ≤ℤ c.in-Some.start)
    (cites_left s late early a b (λ xs. c.least_end-end.result ≤ℤ end_at xs c.args.late.now) first) (cites_right s late early b d (λ xs. start_at xs c.args.early.now ≤ℤ c.in-Some.start) second))

pub returns-in-None : goal.returns-in-None
returns-in-None c e = refused e

pub returns-then-not-branch : goal.returns-then-not-branch
returns-then-not-branch c e = refused e

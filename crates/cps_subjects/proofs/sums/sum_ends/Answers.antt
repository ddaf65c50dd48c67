-- One term more.
use Rattle.std.proofs.Common.{length, get_or, arith, rules, pos, refl, FitsSigned, w32, w64}
use Rattle.std.proofs.lemmas.Int.{to_z-of_z}
use Rattle.cps_model.specs.Values.{variable_of}
use Rattle.cps_validate.proofs.Passing.{named_within}
use Rattle.cps_rup.specs.Domains.{box_in}
use Rattle.cps_subjects.proofs.SumEnds.{ends_with, ends_whole, term_of, turn_of}
use Rattle.cps_subjects.proofs.sums.sum_ends.Goals as goal

pub term_over-requires-clause-named : goal.term_over-requires-clause-named
term_over-requires-clause-named c =
    let r = get_or c.args.vars.now c.loop-k.k (pos 0) in
    let fr : FitsSigned w32 r = search rules in
    rw (to_z-of_z w32 r fr) (named_within (length c.args.domains.now) c.args.vars.now c.loop-k.k (variable_of r) c.requires.named c.loop-k-test.true refl)

pub term_over-requires-clause-fits : goal.term_over-requires-clause-fits
term_over-requires-clause-fits c =
    let vars = c.args.vars.now in
    let coeffs = c.args.coeffs.now in
    let k = c.loop-k.k in
    let r = get_or vars k (pos 0) in
    let x = get_or coeffs k (pos 0) in
    let fr : FitsSigned w32 r = search rules in
    let fx : FitsSigned w64 x = search rules in
    let reach = c.loop-k.invariant.reach in
    let low = reach.2 in
    let term = term_of (box_in c.args.domains.now) vars coeffs k reach.0 r x (omega arith) (omega arith) refl refl reach.1 in
    rw (to_z-of_z w32 r fr, to_z-of_z w64 x fx) (λ y h. let below = term.below y h in let within = term.within in omega arith)

pub with_term-ends-requires-clause-low : goal.with_term-ends-requires-clause-low
with_term-ends-requires-clause-low c =
    let vars = c.args.vars.now in
    let coeffs = c.args.coeffs.now in
    let k = c.loop-k.k in
    let r = get_or vars k (pos 0) in
    let x = get_or coeffs k (pos 0) in
    let fr : FitsSigned w32 r = search rules in
    let fx : FitsSigned w64 x = search rules in
    let reach = c.loop-k.invariant.reach in
    let term = term_of (box_in c.args.domains.now) vars coeffs k reach.0 r x (omega arith) (omega arith) refl refl reach.1 in
    let spans = rw (to_z-of_z w32 r fr, to_z-of_z w64 x fx) at c.term_over.ensures in
    (turn_of (box_in c.args.domains.now) vars coeffs k reach.0 r x c.loop-k.ends.low c.loop-k.ends.high c.term_over.result.low c.term_over.result.high term reach.2 reach.3 spans).low_fits

pub with_term-ends-requires-clause-high : goal.with_term-ends-requires-clause-high
with_term-ends-requires-clause-high c =
    let vars = c.args.vars.now in
    let coeffs = c.args.coeffs.now in
    let k = c.loop-k.k in
    let r = get_or vars k (pos 0) in
    let x = get_or coeffs k (pos 0) in
    let fr : FitsSigned w32 r = search rules in
    let fx : FitsSigned w64 x = search rules in
    let reach = c.loop-k.invariant.reach in
    let term = term_of (box_in c.args.domains.now) vars coeffs k reach.0 r x (omega arith) (omega arith) refl refl reach.1 in
    let spans = rw (to_z-of_z w32 r fr, to_z-of_z w64 x fx) at c.term_over.ensures in
    (turn_of (box_in c.args.domains.now) vars coeffs k reach.0 r x c.loop-k.ends.low c.loop-k.ends.high c.term_over.result.low c.term_over.result.high term reach.2 reach.3 spans).high_fits

pub loop-k-preserved : goal.loop-k-preserved
loop-k-preserved c =
    let vars = c.args.vars.now in
    let coeffs = c.args.coeffs.now in
    let k = c.loop-k.k in
    let r = get_or vars k (pos 0) in
    let x = get_or coeffs k (pos 0) in
    let fr : FitsSigned w32 r = search rules in
    let fx : FitsSigned w64 x = search rules in
    let reach = c.loop-k.invariant.reach in
    let box = box_in c.args.domains.now in
    let term = term_of box vars coeffs k reach.0 r x (omega arith) (omega arith) refl refl reach.1 in
    let spans = rw (to_z-of_z w32 r fr, to_z-of_z w64 x fx) at c.term_over.ensures in
    let turn = turn_of box vars coeffs k reach.0 r x c.loop-k.ends.low c.loop-k.ends.high c.term_over.result.low c.term_over.result.high term reach.2 reach.3 spans in
    record {
      ends = ends_with box vars coeffs k r x c.loop-k.ends.low c.loop-k.ends.high c.term_over.result.low c.term_over.result.high c.with_term-ends.result.low c.with_term-ends.result.high (omega arith) (omega arith) refl refl c.loop-k.invariant.ends spans c.with_term-ends.ensures.low c.with_term-ends.ensures.high;
      reach = rw (c.with_term-ends.ensures.low, c.with_term-ends.ensures.high) turn.reach;
    }

pub returns-clause-ends : goal.returns-clause-ends
returns-clause-ends c = ends_whole (box_in c.args.domains.now) c.args.vars.now c.args.coeffs.now c.loop-k.k c.loop-k.ends.low c.loop-k.ends.high c.loop-k-test.false c.loop-k.invariant.ends

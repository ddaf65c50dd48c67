-- A part covers just the times at which its span surely runs, and demands the least that the span may.
use Rattle.std.specs.Prelude.{unsigned_abs}
use Rattle.std.proofs.Common.{◌≡◌, ℤ, pos, ◌≤ℤ◌, ◌<ℤ◌, List, rules, FitsSigned, w64, arith, sym, subst, length, ◌<◌}
use Rattle.std.specs.Int.{w128}
use Rattle.std.specs.List.{All}
use Rattle.std.proofs.lemmas.Int.{ints, to_z-of_z}
use Rattle.cps_literal.specs.declared.atom.Atom.{Atom}
use Rattle.cps_trail.specs.Trail.{IsTrueNow}
use Rattle.cps_propagate.specs.Now.{IsOpenTo}
use Rattle.cps_p_cumulative.proofs.SpanDemands.{start-inside, end-inside, presence-inside}
use Rattle.cps_p_cumulative.proofs.Energy.{wide_same}
use Rattle.cps_p_cumulative.proofs.Profiled.{IsSure, measured-bare, measured-some}
use Rattle.cps_p_cumulative.proofs.measure.part_of.Goals as goal

pub ends-from-requires : goal.ends-from-requires
ends-from-requires c = start-inside c.args.past.now.first c.args.span.now c.requires.span

pub are_true-requires : goal.are_true-requires
are_true-requires c = subst (λ (us : List Atom). All (λ u. u.subject < length c.args.past.now.first) us) (sym c.as_slice.ensures) (presence-inside c.args.past.now.first c.args.span.now c.requires.span)

pub returns-then-to-from : goal.returns-then-to-from
returns-then-to-from c = measured-bare c.args.past.now c.args.span.now c.args.demand _ _ (wide_same c.ends-from.result.1 c.from.result (search rules) c.from.ensures) (λ t m cover l.
    let a = c.ends-from.result.1 in
    let b = c.least_end-to.result in
    let p = cover.started a c.ends-from.ensures.high in
    let q = c.least_end-to.ensures.ends t cover.running in
    let r : b ≤ℤ a = search (rules, ints) in
    absurd (omega (arith, ints)))

pub returns-then-least-le0 : goal.returns-then-least-le0
returns-then-least-le0 c = measured-bare c.args.past.now c.args.span.now c.args.demand _ _ (wide_same c.ends-from.result.1 c.from.result (search rules) c.from.ensures) (λ t m cover l.
    let q = l.below c.ends-least.result.0 c.ends-least.ensures.low in
    let r = c.if-least-le0.true in
    omega (arith, ints))

pub returns-then-not-are_true : goal.returns-then-not-are_true
returns-then-not-are_true c = measured-bare c.args.past.now c.args.span.now c.args.demand _ _ (wide_same c.ends-from.result.1 c.from.result (search rules) c.from.ensures) (λ t m cover l.
    absurd (c.are_true.ensures.no c.if-not-are_true.true (subst (λ (us : List Atom). All (IsTrueNow c.args.past.now) us) (sym c.as_slice.ensures) cover.present)))

pub returns : goal.returns
returns c =
    let s = c.args.past.now in
    let p = c.args.span.now in
    let a = c.ends-from.result.1 in
    let b = c.least_end-to.result in
    let m = c.ends-least.result.0 in
    let fa : FitsSigned w64 a = search rules in
    let fb : FitsSigned w128 b = search rules in
    let fm : FitsSigned w64 m = search rules in
    let some = c.if-least-le0.false in
    let e : pos (unsigned_abs m) ≡ m = omega (arith, ints) in
    let o : a <ℤ b = search (rules, ints) in
    let sure : IsSure s p c.args.demand (record { from = a; to = b; demand = unsigned_abs m }) = record {
      start-inside = start-inside s.first p c.requires.span;
      end-inside = end-inside s.first p c.requires.span;
      demand-inside = c.requires.demand;
      atoms-inside = presence-inside s.first p c.requires.span;
      present = subst (λ (us : List Atom). All (IsTrueNow s) us) c.as_slice.ensures (c.are_true.ensures.yes c.if-not-are_true.false);
      start = c.ends-from.ensures.high;
      greatest = c.ends-from.ensures.greatest;
      runs = c.least_end-to.ensures.runs;
      ends = c.least_end-to.ensures.ends;
      reached = subst (λ (z : ℤ). IsOpenTo s c.args.demand z) (sym e) c.ends-least.ensures.low;
      least = λ x x-open. (let y = c.ends-least.ensures.least x x-open in omega (arith, ints));
      small = omega (arith, ints);
      ordered = omega (arith, ints);
    } in
    rw (to_z-of_z w64 a fa, to_z-of_z w128 b fb, to_z-of_z w64 m fm) (measured-some s p c.args.demand (record { from = a; to = b; demand = unsigned_abs m }) sure)

pub ends-least-requires : goal.ends-least-requires
ends-least-requires c = c.requires.demand

pub least_end-to-requires : goal.least_end-to-requires
least_end-to-requires c = c.requires.span

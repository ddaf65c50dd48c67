-- The interval at the index has the place that is left, or passes it on.
use Rattle.std.proofs.Common.{rules, ℕ, ◌+◌, ◌-◌, ◌<◌, ◌≤◌, ◌^◌, length, drop, get_or, pos, negsuc, ap, ◌∙◌, arith, FitsSigned, w64}
use Rattle.std.proofs.lemmas.Int.{to_z-of_z, ints}
use Rattle.std.proofs.lemmas.List.{get_or_default}
use Rattle.cps_domain.specs.Window.{width}
use Rattle.cps_domain.proofs.Rising.{rising_at}
use Rattle.cps_branch.specs.Strategies.{values_of}
use Rattle.cps_branch.proofs.Values.{here_at, later_at, fewer_left, no_size}
use Rattle.cps_branch.proofs.strategy.value_at_place.Goals as goal

pub width-width-requires : goal.width-width-requires
width-width-requires c =
    let l : c.loop-interval.interval-index < length c.args.intervals.now = omega arith in
    rising_at (negsuc (2 ^ 62 - 1)) c.args.intervals.now c.loop-interval.interval-index (pos 0, pos 0) c.requires.rising l

pub raised-requires-clause-low : goal.raised-requires-clause-low
raised-requires-clause-low c =
    let p = get_or c.args.intervals.now c.loop-interval.interval-index (pos 0, pos 0) in
    let h = rising_at (negsuc (2 ^ 62 - 1)) c.args.intervals.now c.loop-interval.interval-index (pos 0, pos 0) c.requires.rising (omega arith) in
    let fp : FitsSigned w64 p.0 = search rules in
    let above = h.above in
    rw (to_z-of_z w64 p.0 fp) (omega (arith, ints))

pub raised-requires-clause-room : goal.raised-requires-clause-room
raised-requires-clause-room c =
    let p = get_or c.args.intervals.now c.loop-interval.interval-index (pos 0, pos 0) in
    let h = rising_at (negsuc (2 ^ 62 - 1)) c.args.intervals.now c.loop-interval.interval-index (pos 0, pos 0) c.requires.rising (omega arith) in
    let fp : FitsSigned w64 p.0 = search rules in
    let ordered = h.ordered in
    let below = h.below in
    let small : c.loop-interval.left < width p = omega (arith, c.if-left-width.true, c.width-width.ensures) in
    rw (to_z-of_z w64 p.0 fp) (omega (arith, ints))

pub returns-then-left-width : goal.returns-then-left-width
returns-then-left-width c =
    let ps = c.args.intervals.now in
    let k = c.loop-interval.interval-index in
    let p = get_or ps k (pos 0, pos 0) in
    let l : k < length ps = omega arith in
    let fp : FitsSigned w64 p.0 = search rules in
    let fr : FitsSigned w64 c.raised.result = search rules in
    let at = simp to_z-of_z at c.raised.ensures in
    to_z-of_z w64 c.raised.result fr ∙ here_at ps k c.loop-interval.left p c.raised.result _ l (get_or_default ps k (pos 0, pos 0) p l) (omega (arith, c.if-left-width.true, c.width-width.ensures)) at c.loop-interval.invariant.at

pub loop-interval-preserved : goal.loop-interval-preserved
loop-interval-preserved c =
    let ps = c.args.intervals.now in
    let k = c.loop-interval.interval-index in
    let p = get_or ps k (pos 0, pos 0) in
    let l : k < length ps = omega arith in
    let large : width p ≤ c.loop-interval.left = omega (arith, c.if-left-width.false, c.width-width.ensures) in
    record {
      at = ap (λ (n : ℕ). get_or (values_of (drop (k + 1) ps)) (c.loop-interval.left - n) (pos 0)) c.width-width.ensures ∙ later_at ps k c.loop-interval.left p _ l (get_or_default ps k (pos 0, pos 0) p l) large c.loop-interval.invariant.at;
      fewer = (let less = fewer_left ps k c.loop-interval.left p l (get_or_default ps k (pos 0, pos 0) p l) large c.loop-interval.invariant.fewer in omega (arith, c.width-width.ensures));
    }

pub unreachable-requires : goal.unreachable-requires
unreachable-requires c =
    no_size c.args.intervals.now c.loop-interval.interval-index c.loop-interval.left (omega arith) c.loop-interval.invariant.fewer

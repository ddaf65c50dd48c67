use Rattle.std.proofs.Common.{rules, arith}
use Rattle.std.proofs.lemmas.Int.{ints}
use Rattle.cps_p_arith.proofs.signs.misses_positive.Goals as goal

pub returns-then-falls_short : goal.returns-then-falls_short
returns-then-falls_short c = λ t x y hx hy hv.
    let one = c.requires.from_one in
    let from = hx.from in
    let low = hv.from in
    let short = c.falls_short.ensures (search rules) x y (omega (arith, ints)) (c.reach-one_reach.ensures.within x hx) (c.reach-other_reach.ensures.within y hy) in
    absurd (omega (arith, ints))

pub returns-else-falls_short : goal.returns-else-falls_short
returns-else-falls_short c = λ t x y hx hy hv.
    let one = c.requires.from_one in
    let from = hx.from in
    let high = hv.to in
    let past = c.passes.ensures t x y (omega (arith, ints)) hx.from hy.from in
    absurd (omega (arith, ints))

use Rattle.std.proofs.Common.{rules, pos, neg_ℤ, ◌*ℤ◌, arith}
use Rattle.std.proofs.lemmas.Int.{ints, by_lt_z}
use Rattle.cps_p_arith.specs.Ranges.{IsBetween}
use Rattle.cps_p_arith.proofs.Opposites.{not_positive, turned_left}
use Rattle.cps_p_arith.proofs.signs.misses_signs.Goals as goal

pub returns-then-misses_factor : goal.returns-then-misses_factor
returns-then-misses_factor c = λ t x y hx hy nx ny hv.
    let tl = c.widened-wide.ensures.low in
    let th = c.widened-wide.ensures.high in
    let from = hv.from in
    let to = hv.to in
    let wide : IsBetween c.widened-wide.result.low c.widened-wide.result.high (x *ℤ y) = record { from = omega (arith, ints); to = omega (arith, ints) } in
    by_lt_z (pos 0) x
    (λ p. c.misses_factor.ensures (search rules) x y (c.positive_part-positive.ensures.within x hx (omega (arith, ints))) hy ny wide)
    (λ n. c.misses_factor-then-misses_factor.ensures t (neg_ℤ x) y (c.negative_part-negative.ensures.within x hx (not_positive x n nx)) hy ny
    (turned_left c.widened-wide.result.low c.widened-wide.result.high c.negated-turned.result.low c.negated-turned.result.high x y c.negated-turned.ensures.low c.negated-turned.ensures.high wide))

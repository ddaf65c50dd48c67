use Rattle.std.proofs.Common.{rules, pos, neg_ℤ, arith}
use Rattle.std.proofs.lemmas.Int.{ints, by_lt_z}
use Rattle.cps_p_arith.proofs.Opposites.{not_positive, turned_right}
use Rattle.cps_p_arith.proofs.signs.misses_factor.Goals as goal

pub returns-then-misses_positive : goal.returns-then-misses_positive
returns-then-misses_positive c = λ t x y hx hy ny hv.
    by_lt_z (pos 0) y
    (λ p. c.misses_positive.ensures (search rules) x y hx (c.positive_part-positive.ensures.within y hy (omega (arith, ints))) hv)
    (λ n. c.misses_positive-then-misses_positive.ensures t x (neg_ℤ y) hx (c.negative_part-negative.ensures.within y hy (not_positive y n ny))
    (turned_right c.args.target.low c.args.target.high c.negated-turned.result.low c.negated-turned.result.high x y c.negated-turned.ensures.low c.negated-turned.ensures.high hv))

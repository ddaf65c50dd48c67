use Rattle.std.proofs.Common.{rules, neg_ℤ, arith}
use Rattle.std.proofs.lemmas.Int.{ints}
use Rattle.cps_p_arith.specs.Ranges.{IsBetween}
use Rattle.cps_p_arith.proofs.Dividing.{divided_both, may_divide_up, may_divide_down}
use Rattle.cps_p_arith.proofs.Pairs.{missed}
use Rattle.cps_p_arith.proofs.quotient.misses_all.Goals as goal

pub returns-then-misses-clause-sound : goal.returns-then-misses-clause-sound
returns-then-misses-clause-sound c = λ t n d q r hn hd h hq.
    let tl = c.widened-target.ensures.low in
    let th = c.widened-target.ensures.high in
    let nl = c.widened-dividend.ensures.low in
    let nh = c.widened-dividend.ensures.high in
    let ml = c.negated.ensures.low in
    let mh = c.negated.ensures.high in
    let qf = hq.from in
    let qt = hq.to in
    let nf = hn.from in
    let nt = hn.to in
    let target : IsBetween c.widened-target.result.low c.widened-target.result.high q = record { from = omega (arith, ints); to = omega (arith, ints) } in
    let number : IsBetween c.widened-dividend.result.low c.widened-dividend.result.high n = record { from = omega (arith, ints); to = omega (arith, ints) } in
    let opposite : IsBetween c.negated.result.low c.negated.result.high (neg_ℤ n) = record { from = omega (arith, ints); to = omega (arith, ints) } in
    missed n d q r n d q r
    (λ p. c.misses.ensures.sound (search rules) n d q r number (c.positive_part.ensures.within d hd (omega (arith, ints))) h target)
    (λ p. c.misses-then-misses.ensures.sound t (neg_ℤ n) (neg_ℤ d) q (neg_ℤ r) opposite (c.negative_part.ensures.within d hd (omega (arith, ints))) (divided_both n d q r h) target)
    h

pub returns-then-misses-clause-possible : goal.returns-then-misses-clause-possible
returns-then-misses-clause-possible c = λ f o n.
    let ml = c.negated.ensures.low in
    let mh = c.negated.ensures.high in
    let nl = c.widened-dividend.ensures.low in
    let nh = c.widened-dividend.ensures.high in
    may_divide_down c.args.quotient c.args.number c.args.divisor c.widened-target.result c.negated.result c.negative_part.result c.widened-target.ensures.low c.widened-target.ensures.high
    (rw nh at ml) (rw nl at mh) c.negative_part.ensures.positive c.negative_part.ensures.same o n (c.misses-then-misses.ensures.exact f)

pub returns-else-misses-clause-possible : goal.returns-else-misses-clause-possible
returns-else-misses-clause-possible c = λ f o n.
    may_divide_up c.args.quotient c.args.number c.args.divisor c.widened-target.result c.widened-dividend.result c.positive_part.result c.widened-target.ensures.low c.widened-target.ensures.high
    c.widened-dividend.ensures.low c.widened-dividend.ensures.high c.positive_part.ensures.positive c.positive_part.ensures.same o n (c.misses.ensures.exact c.if-misses.false)

use Rattle.std.proofs.Common.{rules, neg_ℤ, arith}
use Rattle.std.proofs.lemmas.Int.{ints}
use Rattle.cps_p_arith.specs.Ranges.{IsBetween}
use Rattle.cps_p_arith.proofs.Dividing.{divided_turned}
use Rattle.cps_p_arith.proofs.Pairs.{missed}
use Rattle.cps_p_arith.proofs.Leaving.{may_leave_up, may_leave_down}
use Rattle.cps_p_arith.proofs.remainder.misses_all.Goals as goal

pub returns-then-misses-clause-sound : goal.returns-then-misses-clause-sound
returns-then-misses-clause-sound c = λ t n d q r hn hd h hr.
    let tl = c.widened-target.ensures.low in
    let th = c.widened-target.ensures.high in
    let nl = c.widened-dividend.ensures.low in
    let nh = c.widened-dividend.ensures.high in
    let rf = hr.from in
    let rt = hr.to in
    let nf = hn.from in
    let nt = hn.to in
    let target : IsBetween c.widened-target.result.low c.widened-target.result.high r = record { from = omega (arith, ints); to = omega (arith, ints) } in
    let number : IsBetween c.widened-dividend.result.low c.widened-dividend.result.high n = record { from = omega (arith, ints); to = omega (arith, ints) } in
    missed n d q r n d q r
    (λ p. c.misses.ensures.sound (search rules) n d q r number (c.positive_part.ensures.within d hd (omega (arith, ints))) h target)
    (λ p. c.misses-then-misses.ensures.sound t n (neg_ℤ d) (neg_ℤ q) r number (c.negative_part.ensures.within d hd (omega (arith, ints))) (divided_turned n d q r h) target)
    h

pub returns-then-misses-clause-possible : goal.returns-then-misses-clause-possible
returns-then-misses-clause-possible c = λ f ro order.
    let tl = c.widened-target.ensures.low in
    let th = c.widened-target.ensures.high in
    let nl = c.widened-dividend.ensures.low in
    let nh = c.widened-dividend.ensures.high in
    may_leave_down c.args.rest c.args.number c.args.divisor c.widened-target.result c.widened-dividend.result c.negative_part.result tl th nl nh c.negative_part.ensures.same
    (c.misses-then-misses.ensures.possible f (omega (arith, ints)) (omega (arith, ints)))

pub returns-else-misses-clause-possible : goal.returns-else-misses-clause-possible
returns-else-misses-clause-possible c = λ f ro order.
    let tl = c.widened-target.ensures.low in
    let th = c.widened-target.ensures.high in
    let nl = c.widened-dividend.ensures.low in
    let nh = c.widened-dividend.ensures.high in
    may_leave_up c.args.rest c.args.number c.args.divisor c.widened-target.result c.widened-dividend.result c.positive_part.result tl th nl nh c.positive_part.ensures.same
    (c.misses.ensures.possible c.if-misses.false (omega (arith, ints)) (omega (arith, ints)))

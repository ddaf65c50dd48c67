use Rattle.std.proofs.Common.{◌≤ℤ◌, pos, arith}
use Rattle.std.proofs.lemmas.Int.{ints}
use Rattle.cps_p_arith.specs.Ranges.{IsBetween}
use Rattle.cps_p_arith.proofs.Leaving.{unsigned_wider}
use Rattle.cps_p_arith.proofs.remainder.misses_up.Goals as goal

pub returns-then-divisor-clause-sound : goal.returns-then-divisor-clause-sound
returns-then-divisor-clause-sound c = λ t n d q r pn hn hd h hr.
    let from = hd.from in
    let to = hd.to in
    let past = c.if-divisor.true in
    absurd (omega (arith, ints))

pub returns-then-rest-lt0-clause-sound : goal.returns-then-rest-lt0-clause-sound
returns-then-rest-lt0-clause-sound c = λ t n d q r pn hn hd h hr.
    let up : pos 0 ≤ℤ r = h.up pn in
    let to = hr.to in
    let under = c.if-rest-lt0.true in
    absurd (omega (arith, ints))

pub returns-clause-sound : goal.returns-clause-sound
returns-clause-sound c = λ t n d q r pn hn hd h hr.
    c.misses_part.ensures.sound t n d q r (c.not_negative-part.ensures.within n pn hn) hd h (c.not_negative-left.ensures.within r (h.up pn) hr)

pub returns-then-number-lt0-clause-sound : goal.returns-then-number-lt0-clause-sound
returns-then-number-lt0-clause-sound c = λ t n d q r pn hn hd h hr.
    let to = hn.to in
    let under = c.if-number-lt0.true in
    absurd (omega (arith, ints))

pub returns-clause-possible : goal.returns-clause-possible
returns-clause-possible c = λ f order ro.
    let number = c.if-number-lt0.false in
    let rest = c.if-rest-lt0.false in
    let part = c.not_negative-part.result in
    let left = c.not_negative-left.result in
    unsigned_wider (IsBetween part.low part.high) (IsBetween c.args.divisor.low c.args.divisor.high) (IsBetween left.low left.high)
    (IsBetween c.args.number.low c.args.number.high) (IsBetween c.args.divisor.low c.args.divisor.high) (IsBetween c.args.rest.low c.args.rest.high)
    c.not_negative-part.ensures.same (λ x b. b) c.not_negative-left.ensures.same
    (c.misses_part.ensures.possible f (c.not_negative-part.ensures.ordered order (omega (arith, ints))) c.not_negative-left.ensures.from (c.not_negative-left.ensures.ordered ro (omega (arith, ints))))

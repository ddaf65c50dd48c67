use Rattle.std.proofs.Common.{rules, ◌≡◌, ◌≤ℤ◌, pos, arith}
use Rattle.std.proofs.lemmas.Int.{ints}
use Rattle.cps_p_arith.proofs.Dividing.{below}
use Rattle.cps_p_arith.proofs.Rests.{not_below, same_quotient}
use Rattle.cps_p_arith.proofs.Leaving.{leaves_at, leaves_beyond}
use Rattle.cps_p_arith.proofs.remainder.misses_part.Goals as goal

pub returns-then-divisor-rest-clause-sound : goal.returns-then-divisor-rest-clause-sound
returns-then-divisor-rest-clause-sound c = λ t n d q r hn hd h hr.
    let one = c.requires.positive in
    let from = hd.from in
    let to = hd.to in
    let low = hr.from in
    let less = below r d (omega (arith, ints)) h.less in
    let past = c.if-divisor-rest.true in
    absurd (omega (arith, ints))

pub returns-then-misses_at-clause-sound : goal.returns-then-misses_at-clause-sound
returns-then-misses_at-clause-sound c = λ t n d q r hn hd h hr.
    let one = c.requires.positive in
    let from = hd.from in
    let positive : pos 1 ≤ℤ d = omega (arith, ints) in
    let k = c.least_quotient-quotient.result.low in
    let least : k ≤ℤ q = not_below k c.args.number.low c.args.divisor.high n d q r c.least_quotient-quotient.ensures.from positive hd.to c.least_quotient-quotient.ensures.reached hn.from h in
    let most : q ≤ℤ k = c.none_beyond.ensures.sound t n d q r hn.to hd.from positive h hr.from in
    let same : q ≡ k = same_quotient k q least most in
    c.misses_at.ensures.sound (search rules) n d r hn hd (rw same at h) hr

pub returns-then-misses_at-clause-possible : goal.returns-then-misses_at-clause-possible
returns-then-misses_at-clause-possible c = λ f order rn ro.
    leaves_beyond c.args.rest c.args.number c.args.divisor c.least_quotient-quotient.result.low c.requires.from order c.requires.positive c.requires.ordered rn ro
    (let short = c.if-divisor-rest.false in omega (arith, ints)) c.least_quotient-quotient.ensures.next (c.none_beyond.ensures.exact f)

pub returns-else-misses_at-clause-possible : goal.returns-else-misses_at-clause-possible
returns-else-misses_at-clause-possible c = λ f order rn ro.
    let off = c.if-misses_at.false in
    leaves_at c.args.rest c.args.number c.args.divisor c.least_quotient-quotient.result.low c.requires.from order c.requires.positive c.requires.ordered rn ro
    (let short = c.if-divisor-rest.false in omega (arith, ints)) c.least_quotient-quotient.ensures.next (c.misses_at.ensures.needs off) (c.misses_at.ensures.leaves off)

-- A domain of one interval keeps the values between its ends.
use Rattle.std.proofs.Common.{arith, refl, true≢false, sym}
use Rattle.std.proofs.lemmas.Int.{ints}
use Rattle.cps_domain.specs.Window.{within, contains}
use Rattle.cps_domain.proofs.Holding.{one_alone}
use Rattle.cps_domain.proofs.Composing.{cuts_alike, alone_contains}
use Rattle.cps_domain.proofs.domain.Domain.intersect.Goals as goal

pub returns-then-is_interval-clause-cuts : goal.returns-then-is_interval-clause-cuts
returns-then-is_interval-clause-cuts c =
    let b = c.between-hull.result in
    cuts_alike (λ x. within x b) (contains c.args.other.now) c.args.self.now c.narrow_within.new.self c.narrow_within.result
    (λ x i. sym (alone_contains c.args.other.now c.between-hull.result x c.min.ensures.domain (c.if-is_interval.ensures.alone.0 refl) (omega (arith, ints, c.between-hull.ensures.low, c.min.ensures.is)) (omega (arith, ints, c.between-hull.ensures.high, c.max.ensures.is))))
    c.narrow_within.ensures

pub returns-clause-alone : goal.returns-clause-alone
returns-clause-alone c = λ e. absurd (true≢false (sym (c.if-is_interval.ensures.alone.1 (one_alone c.args.other.now c.if-is_interval.ensures.domain e))))

use Rattle.std.proofs.Common.{◌∙◌, ◌≤ℤ◌, pos, arith}
use Rattle.std.proofs.lemmas.Int.{ints}
use Rattle.cps_rule_tests.proofs.Readiness.{never_negative_by}
use Rattle.cps_rule_tests.proofs.resources.never_negative.Goals as goal

pub returns : goal.returns
returns c =
    let low : pos 0 ≤ℤ c.min-low.result = omega (arith, ints) in
    never_negative_by c.args.store.now c.args.subject c.min-low.result c.requires.none low (λ x a. c.min-low.ensures.least x (c.domain-domain.ensures x ∙ a))

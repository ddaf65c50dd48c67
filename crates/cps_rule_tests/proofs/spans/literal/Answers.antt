use Rattle.std.proofs.Common.{◌∙◌, ◌≤ℤ◌, pos, refl, arith}
use Rattle.std.proofs.lemmas.Int.{ints}
use Rattle.cps_rule_tests.proofs.Readiness.{literal_by}
use Rattle.cps_rule_tests.proofs.spans.literal.Goals as goal

pub returns : goal.returns
returns c =
    let low : pos 0 ≤ℤ c.min-low.result = omega (arith, ints) in
    let high : c.max-high.result ≤ℤ pos 1 = omega (arith, ints) in
    literal_by c.args.store.now _ c.min-low.result c.max-high.result c.requires.none refl low high
    (λ x a. c.min-low.ensures.least x (c.domain-domain.ensures x ∙ a))
    (λ x a. c.max-high.ensures.greatest x (c.domain-domain.ensures x ∙ a))

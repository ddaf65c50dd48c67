-- A value below 0 lies as far below -1 as its word below 2^63 - 1.
use Rattle.std.proofs.Common.{rules, arith, sym, ap, ◌∙◌, w64, FitsSigned}
use Rattle.cps_port.specs.Words.{word_of}
use Rattle.cps_port.proofs.WordValues.{word_below}
use Rattle.cps_port.proofs.word.word_of.Goals as goal

pub overflow_cast-result-else-value-ge0 : goal.overflow_cast-result-else-value-ge0
overflow_cast-result-else-value-ge0 c =
    let f : FitsSigned w64 c.in-At.value = search rules in
    let w = word_below c.in-At.value f c.if-value-ge0.false in
    (w.positive, omega (arith, w.small))

pub overflow_sub-result-else-value-ge0-2 : goal.overflow_sub-result-else-value-ge0-2
overflow_sub-result-else-value-ge0-2 c =
    let f : FitsSigned w64 c.in-At.value = search rules in
    (word_below c.in-At.value f c.if-value-ge0.false).small

pub returns-else-value-ge0 : goal.returns-else-value-ge0
returns-else-value-ge0 c =
    let f : FitsSigned w64 c.in-At.value = search rules in
    (word_below c.in-At.value f c.if-value-ge0.false).word ∙ sym (ap (λ b. word_of b) c.in-At.is)

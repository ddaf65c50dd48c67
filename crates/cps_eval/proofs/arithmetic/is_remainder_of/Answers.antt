-- Equal words are equal numbers.
use Rattle.std.specs.Prelude.{int_div}
use Rattle.std.proofs.Common.{◌≡◌, ◌≢◌, ◌∙◌, sym, ap, of_z, pos, ◌-ℤ◌, ◌*ℤ◌, rules, FitsSigned, w64}
use Rattle.std.proofs.lemmas.Int.{to_z-of_z}
use Rattle.cps_eval.proofs.Words.{same_words, words_same}
use Rattle.cps_eval.proofs.arithmetic.is_remainder_of.Goals as goal

pub returns-then-divisor-ne0 : goal.returns-then-divisor-ne0
returns-then-divisor-ne0 c =
    let t = c.args.target in
    let n = c.args.number in
    let d = c.args.divisor in
    let r = c.remainder.result in
    let ft : FitsSigned w64 t = c.ranges.target in
    let fn : FitsSigned w64 n = c.ranges.number in
    let fd : FitsSigned w64 d = c.ranges.divisor in
    let fr : FitsSigned w64 r = search rules in
    let is : r ≡ n -ℤ d *ℤ int_div n d = simp to_z-of_z at c.remainder.ensures.value in
    let other : d ≢ pos 0 = λ e. c.if-divisor-ne0.true (ap (of_z w64) e) in
    (λ e. (other, same_words w64 t r ft fr e ∙ is), λ h. words_same w64 t r (h.1 ∙ sym is))

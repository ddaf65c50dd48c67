use Rattle.std.proofs.Common.{rules, FitsSigned, ◌*ℤ◌, ◌+ℤ◌, pos, arith}
use Rattle.std.proofs.lemmas.Int.{ints, to_z-of_z}
use mir.Syntax.{w128}
use Rattle.cps_p_arith.proofs.Dividing.{above_up, above_down, reached_down, reached_up}
use Rattle.cps_p_arith.proofs.Pairs.{product_fits, next_size, next_fits}
use Rattle.cps_p_arith.proofs.quotient.all_above.Goals as goal

pub returns-then-quotient-lt0-clause-sound : goal.returns-then-quotient-lt0-clause-sound
returns-then-quotient-lt0-clause-sound c =
    let t = c.args.quotient.high in
    let l = c.args.number.low in
    let d = c.args.divisor.low in
    let ft : FitsSigned w128 t = search rules in
    let fl : FitsSigned w128 l = search rules in
    let fd : FitsSigned w128 d = search rules in
    let fm : FitsSigned w128 (t *ℤ d) = product_fits t d (let s = c.requires.quotient.high in omega arith) c.requires.divisor.low in
    let negative = c.if-quotient-lt0.true in
    let one = c.requires.positive in
    simp to_z-of_z (λ h n e q r ln b k. let from = b.from in above_down t l d n e q r (omega (arith, ints)) (omega (arith, ints)) from (grind (arith, ints, h)) ln k)

pub returns-else-quotient-lt0-clause-sound : goal.returns-else-quotient-lt0-clause-sound
returns-else-quotient-lt0-clause-sound c =
    let t = c.args.quotient.high in
    let l = c.args.number.low in
    let d = c.args.divisor.high in
    let ft : FitsSigned w128 t = search rules in
    let fl : FitsSigned w128 l = search rules in
    let fd : FitsSigned w128 d = search rules in
    let fs : FitsSigned w128 (t +ℤ pos 1) = next_fits t c.requires.quotient.high in
    let fm : FitsSigned w128 ((t +ℤ pos 1) *ℤ d) = product_fits (t +ℤ pos 1) d (next_size t c.requires.quotient.high) c.requires.divisor.high in
    let positive = c.if-quotient-lt0.false in
    let one = c.requires.positive in
    simp to_z-of_z (λ h n e q r ln b k. let from = b.from in above_up t l d n e q r (omega (arith, ints)) (omega (arith, ints)) b.to (grind (arith, ints, h)) ln k)

pub overflow_mul-result : goal.overflow_mul-result
overflow_mul-result c =
    let t = c.args.quotient.high in
    let d = c.args.divisor.low in
    let ft : FitsSigned w128 t = search rules in
    let fd : FitsSigned w128 d = search rules in
    simp to_z-of_z (product_fits t d (let s = c.requires.quotient.high in omega arith) c.requires.divisor.low)

pub overflow_add-result : goal.overflow_add-result
overflow_add-result c =
    let t = c.args.quotient.high in
    let ft : FitsSigned w128 t = search rules in
    simp to_z-of_z (next_fits t c.requires.quotient.high)

pub overflow_mul-result-else-quotient-lt0 : goal.overflow_mul-result-else-quotient-lt0
overflow_mul-result-else-quotient-lt0 c =
    let t = c.args.quotient.high in
    let d = c.args.divisor.high in
    let ft : FitsSigned w128 t = search rules in
    let fd : FitsSigned w128 d = search rules in
    let fs : FitsSigned w128 (t +ℤ pos 1) = next_fits t c.requires.quotient.high in
    simp to_z-of_z (product_fits (t +ℤ pos 1) d (next_size t c.requires.quotient.high) c.requires.divisor.high)

pub returns-then-quotient-lt0-clause-exact : goal.returns-then-quotient-lt0-clause-exact
returns-then-quotient-lt0-clause-exact c =
    let t = c.args.quotient.high in
    let l = c.args.number.low in
    let d = c.args.divisor.low in
    let ft : FitsSigned w128 t = search rules in
    let fl : FitsSigned w128 l = search rules in
    let fd : FitsSigned w128 d = search rules in
    let fm : FitsSigned w128 (t *ℤ d) = product_fits t d (let s = c.requires.quotient.high in omega arith) c.requires.divisor.low in
    simp to_z-of_z (λ h o. record {
      d = d;
      divisor = record { from = omega (arith, ints); to = o };
      at_most = λ q r k. reached_down t l d q r c.requires.positive (grind (arith, ints, h)) k;
    })

pub returns-else-quotient-lt0-clause-exact : goal.returns-else-quotient-lt0-clause-exact
returns-else-quotient-lt0-clause-exact c =
    let t = c.args.quotient.high in
    let l = c.args.number.low in
    let d = c.args.divisor.high in
    let ft : FitsSigned w128 t = search rules in
    let fl : FitsSigned w128 l = search rules in
    let fd : FitsSigned w128 d = search rules in
    let fs : FitsSigned w128 (t +ℤ pos 1) = next_fits t c.requires.quotient.high in
    let fm : FitsSigned w128 ((t +ℤ pos 1) *ℤ d) = product_fits (t +ℤ pos 1) d (next_size t c.requires.quotient.high) c.requires.divisor.high in
    let positive = c.if-quotient-lt0.false in
    let one = c.requires.positive in
    simp to_z-of_z (λ h o. record {
      d = d;
      divisor = record { from = o; to = omega (arith, ints) };
      at_most = λ q r k. reached_up t l d q r (omega (arith, ints)) (omega (arith, ints)) (grind (arith, ints, h)) k;
    })

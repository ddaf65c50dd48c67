use Rattle.std.proofs.Common.{rules, FitsSigned, ◌*ℤ◌, ◌+ℤ◌, ◌-ℤ◌, pos, arith}
use Rattle.std.proofs.lemmas.Int.{ints, to_z-of_z}
use mir.Syntax.{w128}
use Rattle.cps_p_arith.proofs.Pairs.{product_fits, next_size, next_fits}
use Rattle.cps_p_arith.proofs.Rests.{not_past, gap_fits}
use Rattle.cps_p_arith.proofs.remainder.none_beyond.Goals as goal

pub returns-clause-sound : goal.returns-clause-sound
returns-clause-sound c =
    let k = c.args.quotient.low in
    let h = c.args.number.high in
    let l = c.args.rest.low in
    let d = c.args.divisor.low in
    let fk : FitsSigned w128 k = search rules in
    let fh : FitsSigned w128 h = search rules in
    let fl : FitsSigned w128 l = search rules in
    let fd : FitsSigned w128 d = search rules in
    let fg : FitsSigned w128 (h -ℤ l) = gap_fits h l c.requires.number.high c.requires.rest.low in
    let fs : FitsSigned w128 (k +ℤ pos 1) = next_fits k c.requires.quotient.low in
    let fm : FitsSigned w128 ((k +ℤ pos 1) *ℤ d) = product_fits (k +ℤ pos 1) d (next_size k c.requires.quotient.low) c.requires.divisor.low in
    simp to_z-of_z (λ t n e q r nh ld pd v rl. not_past k d l h n e q r c.requires.from pd ld (grind (arith, ints, t)) nh rl v)

pub returns-clause-exact : goal.returns-clause-exact
returns-clause-exact c =
    let k = c.args.quotient.low in
    let h = c.args.number.high in
    let l = c.args.rest.low in
    let d = c.args.divisor.low in
    let fk : FitsSigned w128 k = search rules in
    let fh : FitsSigned w128 h = search rules in
    let fl : FitsSigned w128 l = search rules in
    let fd : FitsSigned w128 d = search rules in
    let fg : FitsSigned w128 (h -ℤ l) = gap_fits h l c.requires.number.high c.requires.rest.low in
    let fs : FitsSigned w128 (k +ℤ pos 1) = next_fits k c.requires.quotient.low in
    let fm : FitsSigned w128 ((k +ℤ pos 1) *ℤ d) = product_fits (k +ℤ pos 1) d (next_size k c.requires.quotient.low) c.requires.divisor.low in
    simp to_z-of_z (λ f. (grind (arith, ints, f)))

pub overflow_sub-result : goal.overflow_sub-result
overflow_sub-result c =
    let a = c.args.number.high in
    let b = c.args.rest.low in
    let fa : FitsSigned w128 a = search rules in
    let fb : FitsSigned w128 b = search rules in
    simp to_z-of_z (gap_fits a b c.requires.number.high c.requires.rest.low)

pub overflow_add-result : goal.overflow_add-result
overflow_add-result c =
    let k = c.args.quotient.low in
    let fk : FitsSigned w128 k = search rules in
    simp to_z-of_z (next_fits k c.requires.quotient.low)

pub overflow_mul-result : goal.overflow_mul-result
overflow_mul-result c =
    let k = c.args.quotient.low in
    let d = c.args.divisor.low in
    let fk : FitsSigned w128 k = search rules in
    let fd : FitsSigned w128 d = search rules in
    let fn : FitsSigned w128 (k +ℤ pos 1) = next_fits k c.requires.quotient.low in
    simp to_z-of_z (product_fits (k +ℤ pos 1) d (next_size k c.requires.quotient.low) c.requires.divisor.low)

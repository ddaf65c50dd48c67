use Rattle.std.proofs.Common.{rules, ◌+◌, ◌^◌, FitsSigned}
use Rattle.std.specs.Prelude.{int_div}
use Rattle.std.proofs.lemmas.Int.{to_z-of_z}
use mir.Syntax.{w128}
use Rattle.cps_p_arith.proofs.Rests.{quotient_from, quotient_reached, quotient_next, quotient_size, small_fits}
use Rattle.cps_p_arith.proofs.remainder.least_quotient.Goals as goal

pub returns-clause-from : goal.returns-clause-from
returns-clause-from c =
    let n = c.args.number.low in
    let d = c.args.divisor.high in
    let fn : FitsSigned w128 n = search rules in
    let fd : FitsSigned w128 d = search rules in
    let fq : FitsSigned w128 (int_div n d) = small_fits (int_div n d) (quotient_size n d (2 ^ 63 + 8) c.requires.number.low) in
    simp to_z-of_z (quotient_from n d c.requires.from c.requires.positive)

pub returns-clause-reached : goal.returns-clause-reached
returns-clause-reached c =
    let n = c.args.number.low in
    let d = c.args.divisor.high in
    let fn : FitsSigned w128 n = search rules in
    let fd : FitsSigned w128 d = search rules in
    let fq : FitsSigned w128 (int_div n d) = small_fits (int_div n d) (quotient_size n d (2 ^ 63 + 8) c.requires.number.low) in
    simp to_z-of_z (quotient_reached n d c.requires.from)

pub returns-clause-small : goal.returns-clause-small
returns-clause-small c =
    let n = c.args.number.low in
    let d = c.args.divisor.high in
    let fn : FitsSigned w128 n = search rules in
    let fd : FitsSigned w128 d = search rules in
    let size = quotient_size n d (2 ^ 63 + 8) c.requires.number.low in
    let fq : FitsSigned w128 (int_div n d) = small_fits (int_div n d) size in
    simp to_z-of_z (record { low = size; high = size })

pub returns-clause-next : goal.returns-clause-next
returns-clause-next c =
    let n = c.args.number.low in
    let d = c.args.divisor.high in
    let fn : FitsSigned w128 n = search rules in
    let fd : FitsSigned w128 d = search rules in
    let fq : FitsSigned w128 (int_div n d) = small_fits (int_div n d) (quotient_size n d (2 ^ 63 + 8) c.requires.number.low) in
    simp to_z-of_z (quotient_next n d c.requires.positive)

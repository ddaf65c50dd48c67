-- Two small numbers are divided as such.
use Rattle.std.proofs.Common.{get_or, pos, arith, rules, FitsSigned, w64}
use Rattle.std.proofs.lemmas.Int.{to_z-of_z}
use Rattle.cps_eval.proofs.Computing.{small_at}
use Rattle.cps_eval.proofs.Dividing.{quotient_of_two}
use Rattle.cps_eval.proofs.arithmetic.is_quotient.Goals as goal

pub is_quotient_of-requires : goal.is_quotient_of-requires
is_quotient_of-requires c =
    let ns = c.args.numbers.now in
    let fits : FitsSigned w64 (get_or ns 0 (pos 0)) = search rules in
    rw (to_z-of_z w64 _ fits) (small_at ns 0 c.requires (omega arith))

pub returns-in-len2 : goal.returns-in-len2
returns-in-len2 c =
    let ns = c.args.numbers.now in
    let ft : FitsSigned w64 c.args.target = c.ranges.target in
    let fn : FitsSigned w64 (get_or ns 0 (pos 0)) = search rules in
    let fd : FitsSigned w64 (get_or ns 1 (pos 0)) = search rules in
    let is = simp to_z-of_z at c.is_quotient_of.ensures in
    quotient_of_two c.args.target ns c.is_quotient_of.result (omega arith) is

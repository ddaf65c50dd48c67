-- One literal more.
use Rattle.std.proofs.Common.{get_or, pos, arith, rules, FitsSigned, w32}
use Rattle.std.proofs.lemmas.Int.{to_z-of_z}
use Rattle.cps_log.specs.Boxes.{IsFixedFalse}
use Rattle.cps_rup.specs.Domains.{box_in}
use Rattle.cps_cert.proofs.Pairs.{none_more, not_true}
use Rattle.cps_cert.proofs.fixed.any_fixed_false.Goals as goal

pub loop-literal-preserved : goal.loop-literal-preserved
loop-literal-preserved c =
    let literals = c.args.literals.now in
    let k = c.loop-literal.literal-index in
    let r = get_or literals k (pos 0) in
    let fits : FitsSigned w32 r = search rules in
    let said = rw (to_z-of_z w32 r fits) at c.is_fixed_false.ensures in
    none_more (IsFixedFalse (box_in c.args.domains.now)) literals k (omega arith) c.loop-literal.invariant (λ h. not_true c.is_fixed_false.result c.if-is_fixed_false.false (said.1 h))

-- One literal more, and none left.
use Rattle.std.specs.Prelude.{All}
use Rattle.std.proofs.Common.{get_or, refl, subst, pos, arith, rules, FitsSigned, w32}
use Rattle.std.proofs.lemmas.Int.{to_z-of_z}
use Rattle.std.proofs.lemmas.List.{take_all}
use Rattle.std.proofs.lemmas.List.Elements.{All-more}
use Rattle.cps_log.specs.Boxes.{IsFixedFalse}
use Rattle.cps_rup.specs.Domains.{box_in}
use Rattle.cps_cert.proofs.fixed.all_fixed_false.Goals as goal

pub loop-literal-preserved : goal.loop-literal-preserved
loop-literal-preserved c =
    let literals = c.args.literals.now in
    let k = c.loop-literal.literal-index in
    let r = get_or literals k (pos 0) in
    let fits : FitsSigned w32 r = search rules in
    let said = rw (to_z-of_z w32 r fits) at c.is_fixed_false.ensures in
    All-more (IsFixedFalse (box_in c.args.domains.now)) literals k (pos 0) (omega arith) c.loop-literal.invariant (said.0 c.if-not-is_fixed_false.false)

pub returns : goal.returns
returns c = (λ h. subst (All (IsFixedFalse (box_in c.args.domains.now))) (take_all c.loop-literal.literal-index c.args.literals.now c.loop-literal-test.false) c.loop-literal.invariant, λ h. refl)

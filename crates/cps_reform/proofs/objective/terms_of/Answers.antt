-- The terms of one more reference.
use Rattle.std.proofs.Common.{get_or, arith, rules, pos, FitsSigned, w32, w64, refl}
use Rattle.std.proofs.lemmas.Int.{to_z-of_z}
use Rattle.cps_instance.specs.Writing.{terms_of}
use Rattle.cps_instance.proofs.Summing.{terms_of-more, terms_of-all}
use Rattle.cps_reform.proofs.objective.terms_of.Goals as goal

pub loop-k-preserved : goal.loop-k-preserved
loop-k-preserved c =
    let rs = c.args.vars.now in
    let cs = c.args.coeffs.now in
    let k = c.loop-k.k in
    let r = get_or rs k (pos 0) in
    let x = get_or cs k (pos 0) in
    let fr : FitsSigned w32 r = search rules in
    let fx : FitsSigned w64 x = search rules in
    let pushed = simp to_z-of_z at c.in_ok-push_reference.ensures in
    terms_of-more _ _ rs cs k r x (terms_of rs cs) (omega arith) (omega arith) refl refl pushed c.loop-k.invariant

pub returns : goal.returns
returns c = terms_of-all c.loop-k.terms.items c.args.vars.now c.args.coeffs.now c.loop-k.k (omega arith) c.loop-k.invariant

-- Each term fits, since the weight of all is small.
use Rattle.std.proofs.Common.{◌≡◌, ℤ, true, length, sym, subst, get_or, unsigned_abs, arith, rules, pos, ◌*ℤ◌, FitsSigned, w32, w64, to_z, refl}
use Rattle.std.proofs.lemmas.Int.{to_z-of_z, unsigned_abs-mul}
use Rattle.cps_model.specs.Values.{sum_of}
use Rattle.cps_model.specs.Reach.{weight_of}
use Rattle.cps_model.specs.Rules.{names}
use Rattle.cps_model.proofs.Sums.{unsigned_abs-add, weight_of-more, sum_of-more}
use Rattle.cps_cert.proofs.Valued.{named_at}
use Rattle.cps_cert.proofs.values.sum_of.Goals as goal

pub with_term-sum-requires : goal.with_term-sum-requires
with_term-sum-requires c =
    let a = c.args.values.now in
    let rs = c.args.vars.now in
    let cs = c.args.coeffs.now in
    let k = c.loop-k.k in
    let r = get_or rs k (pos 0) in
    let x = get_or cs k (pos 0) in
    let v = c.reference_value.result in
    let s = to_z w64 c.loop-k.sum-bits in
    let fr : FitsSigned w32 r = search rules in
    let fx : FitsSigned w64 x = search rules in
    let fv : FitsSigned w64 v = search rules in
    let is_v = simp to_z-of_z at c.reference_value.ensures in
    let bound = weight_of-more a rs cs k x v (unsigned_abs s) (weight_of a rs cs) (omega arith) (omega arith) refl is_v c.loop-k.invariant.near in
    rw (to_z-of_z w64 x fx, to_z-of_z w64 v fv) (omega (arith, unsigned_abs-mul x v))

pub loop-k-preserved : goal.loop-k-preserved
loop-k-preserved c =
    let a = c.args.values.now in
    let rs = c.args.vars.now in
    let cs = c.args.coeffs.now in
    let k = c.loop-k.k in
    let r = get_or rs k (pos 0) in
    let x = get_or cs k (pos 0) in
    let v = c.reference_value.result in
    let s = to_z w64 c.loop-k.sum-bits in
    let next = c.with_term-sum.result in
    let fr : FitsSigned w32 r = search rules in
    let fx : FitsSigned w64 x = search rules in
    let fv : FitsSigned w64 v = search rules in
    let fn : FitsSigned w64 next = search rules in
    let is_v = simp to_z-of_z at c.reference_value.ensures in
    let is_next = simp to_z-of_z at c.with_term-sum.ensures in
    let bound = weight_of-more a rs cs k x v (unsigned_abs s) (weight_of a rs cs) (omega arith) (omega arith) refl is_v c.loop-k.invariant.near in
    record {
      whole = rw (to_z-of_z w64 next fn, is_next) (sum_of-more a rs cs k x v s (sum_of a rs cs) (omega arith) (omega arith) refl is_v c.loop-k.invariant.whole);
      near = rw (to_z-of_z w64 next fn, is_next) (omega (arith, unsigned_abs-add s (x *ℤ v)));
    }

pub reference_value-requires-clause-named : goal.reference_value-requires-clause-named
reference_value-requires-clause-named c =
    let rs = c.args.vars.now in
    let k = c.loop-k.k in
    let fits : FitsSigned w32 (get_or rs k (pos 0)) = search rules in
    subst (λ (z : ℤ). names (length c.args.values.now) z ≡ true) (sym (to_z-of_z w32 _ fits)) (named_at (length c.args.values.now) rs k c.requires.named (omega arith))

-- One term more of an expression.
use Rattle.std.proofs.Common.{rules, ◌≡◌, length, min, ℕ, ◌*◌, ◌^◌, ◌<◌, ◌≤◌, List, get_or, ◌∙◌, ap, subst, arith, w32, w64, ℤ, pos, ◌+ℤ◌, FitsSigned}
use Rattle.std.specs.Prelude.{if◌then◌else◌, ◌==◌, unsigned_abs, unwrap_or, Option, nat_eq}
use Rattle.std.specs.HashMap.{get}
use Rattle.std.specs.Int.{w128}
use Rattle.std.proofs.lemmas.Int.{ints, to_z-of_z}
use Rattle.cps_model.specs.Values.{variable_of}
use Rattle.cps_instance.specs.Lengths.{signed_coefficient}
use Rattle.cps_instance.specs.Merging.{merged_coefficient}
use Rattle.cps_instance.proofs.Lengths.{coefficient-end, signed-size, merged-more, merged-size, merged-fits, put-value}
use Rattle.cps_instance.proofs.spans.merged.Goals as goal

own_size : (own r x : ℤ) → own ≡ signed_coefficient r x → FitsSigned w64 x → unsigned_abs own ≤ 2 ^ 63
own_size own r x e f = omega (arith, ints, f.sfits, ap unsigned_abs e, signed-size r x)

old_size : (f : ℕ → ℤ) (w k : ℕ) (before : ℤ) → before ≡ f w → unsigned_abs (f w) ≤ 2 ^ 63 * k → unsigned_abs before ≤ 2 ^ 63 * k
old_size f w k before e h = omega (arith, h, ap unsigned_abs e)

pub overflow_add-before : goal.overflow_add-before
overflow_add-before c =
    let w = c.variable_of-variable.result in
    let r = get_or c.as_slice-references.result.now c.loop-k.k (pos 0) in
    let x = get_or c.as_slice-coeffs.result.now c.loop-k.k (pos 0) in
    let before = c.unwrap_or-before.result in
    let own = c.signed_coefficient-own.result in
    let fr : FitsSigned w32 r = search rules in
    let fx : FitsSigned w64 x = search rules in
    let fb : FitsSigned w128 before = search rules in
    let fo : FitsSigned w128 own = search rules in
    let own_is : own ≡ signed_coefficient r x = simp to_z-of_z at c.signed_coefficient-own.ensures in
    let before_is : before ≡ merged_coefficient c.loop-k.merged w = c.unwrap_or-before.ensures ∙ ap (λ (o : Option ℤ). unwrap_or o (pos 0)) (c.copied.ensures ∙ c.get.ensures.value) in
    rw (to_z-of_z w128 before fb, to_z-of_z w128 own fo)
    (merged-fits before own c.loop-k.k c.min-k-end.result (old_size (merged_coefficient c.loop-k.merged) w c.loop-k.k before before_is (c.loop-k.invariant.1 w)) (own_size own r x own_is fx) c.loop-k-test.true c.min-k-end.type_inv)

pub loop-k-preserved : goal.loop-k-preserved
loop-k-preserved c =
    let w = c.variable_of-variable.result in
    let rs = c.args.expr.now.vars in
    let cs = c.args.expr.now.coeffs in
    let k = c.loop-k.k in
    let f = merged_coefficient c.loop-k.merged in
    let r = get_or c.as_slice-references.result.now k (pos 0) in
    let x = get_or c.as_slice-coeffs.result.now k (pos 0) in
    let before = c.unwrap_or-before.result in
    let own = c.signed_coefficient-own.result in
    let fr : FitsSigned w32 r = search rules in
    let fx : FitsSigned w64 x = search rules in
    let fb : FitsSigned w128 before = search rules in
    let fo : FitsSigned w128 own = search rules in
    let own_is : own ≡ signed_coefficient r x = simp to_z-of_z at c.signed_coefficient-own.ensures in
    let w_is : w ≡ variable_of r = simp to_z-of_z at c.variable_of-variable.ensures in
    let before_is : before ≡ f w = c.unwrap_or-before.ensures ∙ ap (λ (o : Option ℤ). unwrap_or o (pos 0)) (c.copied.ensures ∙ c.get.ensures.value) in
    let own_small = own_size own r x own_is fx in
    let fs : FitsSigned w128 (before +ℤ own) = merged-fits before own k c.min-k-end.result (old_size f w k before before_is (c.loop-k.invariant.1 w)) own_small c.loop-k-test.true c.min-k-end.type_inv in
    let after = simp to_z-of_z at c.in_ok-insert.ensures.updates.0 in
    let new : (v : ℕ) → merged_coefficient c.insert.new.self v ≡ (if w == v then before +ℤ own else f v) =
    λ v. ap (λ (o : Option ℤ). unwrap_or o (pos 0)) (after v) ∙ put-value (w == v) (before +ℤ own) (get nat_eq c.loop-k.merged v) in
    let within : k < length rs = subst (λ (qs : List ℤ). k < length qs) c.as_slice-references.ensures (let a = c.min-k-end.ensures in let b = c.loop-k-test.true in omega arith) in
    let inside : k < length cs = subst (λ (qs : List ℤ). k < length qs) c.as_slice-coeffs.ensures (let a = c.min-k-end.ensures in let b = c.loop-k-test.true in omega arith) in (
      λ v. merged-more rs cs k w v f r x before own (merged_coefficient c.insert.new.self v) within inside (ap (λ (qs : List ℤ). get_or qs k (pos 0)) c.as_slice-references.ensures) (ap (λ (qs : List ℤ). get_or qs k (pos 0)) c.as_slice-coeffs.ensures)
          w_is own_is before_is (new v) (c.loop-k.invariant.0 v),
      λ v. merged-size v w f before own (merged_coefficient c.insert.new.self v) k before_is (new v) (c.loop-k.invariant.1 v) own_small,
    )

pub returns : goal.returns
returns c = λ v.
    let rs = c.args.expr.now.vars in
    let cs = c.args.expr.now.coeffs in
    let past = subst (λ (ps : List ℤ). min (length rs) (length ps) ≤ c.loop-k.k) c.as_slice-coeffs.ensures (subst (λ (ps : List ℤ). min (length ps) (length c.as_slice-coeffs.result.now) ≤ c.loop-k.k) c.as_slice-references.ensures (let a = c.min-k-end.ensures in let b = c.loop-k-test.false in omega arith)) in
    let none = coefficient-end v rs cs c.loop-k.k past in
    let all = c.loop-k.invariant.0 v in
    omega (arith, ints)

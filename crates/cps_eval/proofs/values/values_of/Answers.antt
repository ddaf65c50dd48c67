-- One value more.
use Rattle.std.proofs.Common.{◌≡◌, ◌∙◌, ◌++◌, ap, sym, subst, ℤ, List, true, [], ◌∷◌, get_or, refl, rules, arith, FitsSigned, w64}
use Rattle.std.proofs.lemmas.Int.{to_z-of_z}
use Rattle.cps_model.specs.declared.model.LinearExpr.{LinearExpr}
use Rattle.cps_model.specs.Values.{expression_value}
use Rattle.cps_model.specs.Meaning.{values_of}
use Rattle.cps_model.specs.Ready.{are_small, is_ready}
use Rattle.cps_validate.proofs.Passing.{all_at}
use Rattle.cps_eval.proofs.Computing.{map_more, small_number-more, all_done}
use Rattle.cps_eval.proofs.values.values_of.Goals as goal

pub loop-expr-preserved : goal.loop-expr-preserved
loop-expr-preserved c =
    let a = c.args.values.now in
    let es = c.args.exprs.now in
    let k = c.loop-expr.expr-index in
    let e = c.expr-item.result in
    let v = c.expression_value.result in
    let done = c.loop-expr.numbers.items in
    let fits : FitsSigned w64 v = search rules in
    let pushed : c.push.new.self.items ≡ done ++ (v ∷ []) = c.in_ok-push.ensures.items ∙ ap (λ (z : ℤ). c.loop-expr.numbers.items ++ (z ∷ [])) (to_z-of_z w64 v fits) in
    let is : v ≡ expression_value a (get_or es k e) = c.expression_value.ensures.value ∙ ap (λ (x : LinearExpr). expression_value c.args.values.now x) c.expr-item.is in
    record {
      whole = rw (pushed ∙ ap (λ (z : ℤ). c.loop-expr.numbers.items ++ (z ∷ [])) is) (map_more (expression_value a) es done _ k e (omega arith) c.loop-expr.invariant.whole);
      small = subst (λ (ns : List ℤ). are_small ns ≡ true) (sym pushed) (small_number-more done v c.loop-expr.invariant.small c.expression_value.ensures.near);
    }

pub returns-clause-value : goal.returns-clause-value
returns-clause-value c = all_done (values_of c.args.values.now) c.args.exprs.now c.loop-expr.numbers.items _ c.loop-expr.expr-index refl (omega arith) c.loop-expr.invariant.whole

pub expression_value-requires-clause-ready : goal.expression_value-requires-clause-ready
expression_value-requires-clause-ready c =
    all_at (is_ready c.args.values.now) c.args.exprs.now c.loop-expr.expr-index c.expr-item.result c.requires.ready (omega arith) c.expr-item.is

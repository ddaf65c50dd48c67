-- One literal more that is true, or one that is not.
use Rattle.std.specs.Prelude.{◌||◌}
use Rattle.std.proofs.Common.{rules, ◌≡◌, ◌∙◌, ap, Bool, true, ℤ, pos, length, get_or, FitsSigned, w32, sym, subst, arith}
use Rattle.std.proofs.lemmas.Int.{to_z-of_z}
use Rattle.std.proofs.lemmas.List.Folds.{list_any_at, list_any_more}
use Rattle.cps_model.specs.Values.{literal_holds}
use Rattle.cps_model.specs.Rules.{names}
use Rattle.cps_eval.proofs.Listing.{named_at}
use Rattle.cps_eval.proofs.kinds.some_literal_holds.Goals as goal

pub literal_holds-requires : goal.literal_holds-requires
literal_holds-requires c =
    let ls = c.args.literals.now in
    let k = c.loop-literal.literal-index in
    let fits : FitsSigned w32 (get_or ls k (pos 0)) = search rules in
    subst (λ (z : ℤ). names (length c.args.values.now) z ≡ true) (sym (to_z-of_z w32 _ fits)) (named_at (length c.args.values.now) ls k c.requires (omega arith))

pub returns-then-literal_holds : goal.returns-then-literal_holds
returns-then-literal_holds c =
    let ls = c.args.literals.now in
    let k = c.loop-literal.literal-index in
    let fits : FitsSigned w32 (get_or ls k (pos 0)) = search rules in
    let is = simp to_z-of_z at c.literal_holds.ensures in
    sym (list_any_at (literal_holds c.args.values.now) ls k (pos 0) (omega arith) (sym is ∙ c.if-literal_holds.true))

pub loop-literal-preserved : goal.loop-literal-preserved
loop-literal-preserved c =
    let ls = c.args.literals.now in
    let k = c.loop-literal.literal-index in
    let here = literal_holds c.args.values.now (get_or ls k (pos 0)) in
    let fits : FitsSigned w32 (get_or ls k (pos 0)) = search rules in
    let is = simp to_z-of_z at c.literal_holds.ensures in
    list_any_more (literal_holds c.args.values.now) ls k (pos 0) (omega arith) ∙ ap (λ (b : Bool). b || here) c.loop-literal.invariant ∙ sym is ∙ c.if-literal_holds.false

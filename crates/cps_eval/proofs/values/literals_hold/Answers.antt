-- One literal more that is true, or one that is not.
use Rattle.std.proofs.Common.{◌≡◌, ◌∙◌, true, ℤ, pos, length, get_or, FitsSigned, w32, sym, subst, arith, rules}
use Rattle.std.proofs.lemmas.Int.{to_z-of_z}
use Rattle.std.proofs.lemmas.List.Folds.{list_all_at, list_all_more}
use Rattle.cps_model.specs.Values.{literal_holds}
use Rattle.cps_model.specs.Rules.{names}
use Rattle.cps_model.proofs.Tests.{both_true}
use Rattle.cps_eval.proofs.Listing.{named_at}
use Rattle.cps_eval.proofs.values.literals_hold.Goals as goal

pub literal_holds-requires : goal.literal_holds-requires
literal_holds-requires c =
    let ls = c.args.literals.now in
    let k = c.loop-literal.literal-index in
    let fits : FitsSigned w32 (get_or ls k (pos 0)) = search rules in
    subst (λ (z : ℤ). names (length c.args.values.now) z ≡ true) (sym (to_z-of_z w32 _ fits)) (named_at (length c.args.values.now) ls k c.requires (omega arith))

pub returns-then-not-literal_holds : goal.returns-then-not-literal_holds
returns-then-not-literal_holds c =
    let ls = c.args.literals.now in
    let k = c.loop-literal.literal-index in
    let fits : FitsSigned w32 (get_or ls k (pos 0)) = search rules in
    let is = simp to_z-of_z at c.literal_holds.ensures in
    sym (list_all_at (literal_holds c.args.values.now) ls k (pos 0) (omega arith) (sym is ∙ c.if-not-literal_holds.true))

pub loop-literal-preserved : goal.loop-literal-preserved
loop-literal-preserved c =
    let ls = c.args.literals.now in
    let k = c.loop-literal.literal-index in
    let fits : FitsSigned w32 (get_or ls k (pos 0)) = search rules in
    let is = simp to_z-of_z at c.literal_holds.ensures in
    list_all_more (literal_holds c.args.values.now) ls k (pos 0) (omega arith) ∙ both_true _ _ c.loop-literal.invariant (sym is ∙ c.if-not-literal_holds.false)

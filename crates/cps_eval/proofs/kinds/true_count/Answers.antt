-- One literal more that is true, or one that is not.
use Rattle.std.proofs.Common.{rules, ◌≡◌, ◌∙◌, ℕ, ◌+◌, ◌≤◌, ap, take, true, ℤ, pos, length, get_or, FitsSigned, w32, sym, subst, arith}
use Rattle.std.proofs.lemmas.Int.{to_z-of_z}
use Rattle.std.proofs.lemmas.List.{length-take}
use Rattle.std.proofs.lemmas.List.Sums.{count_by-le-length, count_by_more_yes, count_by_more_no}
use Rattle.cps_model.specs.Values.{literal_holds}
use Rattle.cps_model.specs.Rules.{names}
use Rattle.cps_eval.proofs.Listing.{named_at}
use Rattle.cps_eval.proofs.kinds.true_count.Goals as goal
use Rattle.cps_eval.proofs.kinds.true_count.Goals.{then-literal_holds, else-literal_holds}

pub literal_holds-requires : goal.literal_holds-requires
literal_holds-requires c =
    let ls = c.args.literals.now in
    let k = c.loop-literal.literal-index in
    let fits : FitsSigned w32 (get_or ls k (pos 0)) = search rules in
    subst (λ (z : ℤ). names (length c.args.values.now) z ≡ true) (sym (to_z-of_z w32 _ fits)) (named_at (length c.args.values.now) ls k c.requires (omega arith))

pub overflow_add-count : goal.overflow_add-count
overflow_add-count c =
    let ls = c.args.literals.now in
    let k = c.loop-literal.literal-index in
    let holds = literal_holds c.args.values.now in
    let few : c.loop-literal.count + 1 ≤ length ls = (let is = c.loop-literal.invariant in let most = count_by-le-length holds (take k ls) in omega (arith, length-take k ls)) in
    search rules

pub loop-literal-preserved : goal.loop-literal-preserved
loop-literal-preserved c =
    let ls = c.args.literals.now in
    let k = c.loop-literal.literal-index in
    let holds = literal_holds c.args.values.now in
    let fits : FitsSigned w32 (get_or ls k (pos 0)) = search rules in
    let is = simp to_z-of_z at c.literal_holds.ensures in
    elim c.if-literal_holds.branch [
      | then-literal_holds w ↦ w.count-is ∙ ap (λ (n : ℕ). n + 1) c.loop-literal.invariant ∙ sym (count_by_more_yes holds ls k (pos 0) c.loop-literal-test.true (sym is ∙ w.if-literal_holds.true))
      | else-literal_holds w ↦ w.count-is ∙ c.loop-literal.invariant ∙ sym (count_by_more_no holds ls k (pos 0) c.loop-literal-test.true (sym is ∙ w.if-literal_holds.false))
    ]

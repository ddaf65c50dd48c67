-- One arc more, or one that is not selected.
use Rattle.std.proofs.Common.{◌≡◌, ◌∙◌, ℤ, true, length, sym, subst, get_or, pos, arith, rules, refl, FitsSigned, w32}
use Rattle.std.proofs.lemmas.Int.{to_z-of_z}
use Rattle.cps_model.specs.Rules.{names}
use Rattle.cps_eval.proofs.Circling.{selected-more, selected-less}
use Rattle.cps_eval.proofs.Listing.{named_at}
use Rattle.cps_eval.proofs.circuits.selected.Goals as goal

pub loop-k-preserved-then-not-literal_holds : goal.loop-k-preserved-then-not-literal_holds
loop-k-preserved-then-not-literal_holds c =
    let ls = c.args.literals.now in
    let k = c.loop-k.k in
    let fits : FitsSigned w32 (get_or ls k (pos 0)) = search rules in
    let is = simp to_z-of_z at c.literal_holds.ensures in
    selected-less c.args.values.now c.args.tails.now c.args.heads.now ls k c.loop-k.arcs.items _ (omega arith) (omega arith) (omega arith) (sym is ∙ c.if-not-literal_holds.true) c.loop-k.invariant

pub loop-k-preserved : goal.loop-k-preserved
loop-k-preserved c =
    let ts = c.args.tails.now in
    let hs = c.args.heads.now in
    let ls = c.args.literals.now in
    let k = c.loop-k.k in
    let ft : FitsSigned w32 (get_or ts k (pos 0)) = search rules in
    let fh : FitsSigned w32 (get_or hs k (pos 0)) = search rules in
    let fl : FitsSigned w32 (get_or ls k (pos 0)) = search rules in
    let is = simp to_z-of_z at c.literal_holds.ensures in
    let items = simp to_z-of_z at c.in_ok-push.ensures.items in
    rw items (selected-more c.args.values.now ts hs ls k _ c.loop-k.arcs.items _ (omega arith) (omega arith) (omega arith) refl (sym is ∙ c.if-not-literal_holds.false) c.loop-k.invariant)

pub literal_holds-requires : goal.literal_holds-requires
literal_holds-requires c =
    let ls = c.args.literals.now in
    let k = c.loop-k.k in
    let fits : FitsSigned w32 (get_or ls k (pos 0)) = search rules in
    subst (λ (z : ℤ). names (length c.args.values.now) z ≡ true) (sym (to_z-of_z w32 _ fits)) (named_at (length c.args.values.now) ls k c.requires.named (omega arith))

-- One end more.
use Rattle.std.proofs.Common.{◌≡◌, ◌∙◌, ◌++◌, ap, ℤ, List, [], ◌∷◌, get_or, pos, refl, rules, arith, FitsSigned, w32, w64}
use Rattle.std.proofs.lemmas.Int.{to_z-of_z}
use Rattle.cps_eval.proofs.Computing.{item_more, all_done}
use Rattle.cps_eval.proofs.circuits.add_ends.Goals as goal

pub loop-end-preserved : goal.loop-end-preserved
loop-end-preserved c =
    let es = c.args.ends.now in
    let k = c.loop-end.end-index in
    let e = get_or es k (pos 0) in
    let fe : FitsSigned w32 e = search rules in
    let fv : FitsSigned w64 c.from.result = search rules in
    let is : c.from.result ≡ e = simp to_z-of_z at c.from.ensures in
    let items : c.push.new.self.items ≡ c.loop-end.nodes.items ++ (e ∷ []) = c.in_ok-push.ensures.items ∙ ap (λ (z : ℤ). c.loop-end.nodes.items ++ (z ∷ [])) (to_z-of_z w64 c.from.result fv ∙ is) in
    rw items (item_more es c.loop-end.nodes.items _ k (pos 0) (omega arith) c.loop-end.invariant)

pub returns : goal.returns
returns c = all_done (λ (es : List ℤ). es) c.args.ends.now c.loop-end.nodes.items _ c.loop-end.end-index refl (omega arith) c.loop-end.invariant

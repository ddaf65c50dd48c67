-- One head more, and none that is left.
use Rattle.std.specs.Prelude.{map}
use Rattle.std.proofs.Common.{◌≡◌, ◌∙◌, ◌++◌, ap, ℤ, List, [], ◌∷◌, get_or, refl, rules, arith, FitsSigned, w32, w64}
use Rattle.std.proofs.lemmas.Int.{to_z-of_z}
use Rattle.cps_model.specs.declared.parts.Arc.{Arc}
use Rattle.cps_eval.specs.Walks.{no_arc}
use Rattle.cps_eval.proofs.Computing.{map_more, all_done}
use Rattle.cps_eval.proofs.circuits.heads_of.Goals as goal

pub loop-arc-preserved : goal.loop-arc-preserved
loop-arc-preserved c =
    let arcs = c.args.arcs.now in
    let k = c.loop-arc.arc-index in
    let node = (get_or arcs k no_arc).head in
    let fn : FitsSigned w32 node = search rules in
    let fv : FitsSigned w64 c.from.result = search rules in
    let is : c.from.result ≡ node = simp to_z-of_z at c.from.ensures in
    let items : c.push.new.self.items ≡ c.loop-arc.heads.items ++ (node ∷ []) = c.in_ok-push.ensures.items ∙ ap (λ (z : ℤ). c.loop-arc.heads.items ++ (z ∷ [])) (to_z-of_z w64 c.from.result fv ∙ is) in
    rw items (map_more (λ (arc : Arc). arc.head) arcs c.loop-arc.heads.items _ k no_arc (omega arith) c.loop-arc.invariant)

pub returns : goal.returns
returns c = all_done (λ (arcs : List Arc). map (λ arc. arc.head) arcs) c.args.arcs.now c.loop-arc.heads.items _ c.loop-arc.arc-index refl (omega arith) c.loop-arc.invariant

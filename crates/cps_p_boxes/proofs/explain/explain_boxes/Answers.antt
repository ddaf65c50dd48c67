-- The directions may be exchanged.
use Rattle.std.proofs.Common.{[], true, ◌≡◌, Ok, rules}
use Rattle.cps_literal.specs.Truth.{atom_holds}
use Rattle.cps_p_boxes.specs.Boxes.{AreDisjoint}
use Rattle.cps_p_boxes.proofs.Box_facts.{cites_turned}
use Rattle.cps_p_boxes.proofs.Boxing.{swapped_disjoint}
use Rattle.cps_p_boxes.proofs.explain.explain_boxes.Goals as goal

pub returns-then-branch-2 : goal.returns-then-branch-2
returns-then-branch-2 c e =
    let x = c.args.x.now in
    let y = c.args.y.now in
    let one : c.explain_along-2.result ≡ Ok true = search rules in
    cites_turned c.args.past.now x y [] c.explain_along-2.new.facts.items (λ xs. AreDisjoint xs c.args.y.now c.args.x.now → atom_holds xs c.args.claim.target ≡ true) (λ xs. AreDisjoint xs c.args.x.now c.args.y.now → atom_holds xs c.args.claim.target ≡ true)
    (λ xs h o. h (swapped_disjoint xs x y o)) (c.explain_along-2.ensures one)

-- One more literal has its atom.
use Rattle.std.proofs.Common.{rules, ◌<◌, ℤ, List, length, map, get_or, pos, FitsSigned, w32, ap, ◌∙◌, arith}
use Rattle.std.proofs.lemmas.Int.{to_z-of_z}
use Rattle.std.proofs.lemmas.List.{take_all}
use Rattle.cps_instance.specs.Posting.{atom_of}
use Rattle.cps_instance.proofs.Mapping.{map_longer}
use Rattle.cps_instance.proofs.literals.atoms_of.Goals as goal

pub loop-literal-preserved : goal.loop-literal-preserved
loop-literal-preserved c =
    let xs = c.args.literals.now in
    let k = c.loop-literal.literal-index in
    let l : k < length xs = omega arith in
    let fits : FitsSigned w32 (get_or xs k (pos 0)) = search rules in
    let own = c.atom_of.ensures ∙ ap (λ (x : ℤ). atom_of x) (to_z-of_z w32 _ fits) in
    map_longer atom_of xs k (pos 0) c.loop-literal.atoms.items c.push.new.self.items c.atom_of.result l c.loop-literal.invariant own c.in_ok-push.ensures.items

pub returns : goal.returns
returns c =
    c.from_vec.ensures ∙ c.loop-literal.invariant ∙ ap (λ (xs : List ℤ). map atom_of xs) (take_all c.loop-literal.literal-index c.args.literals.now (omega arith))

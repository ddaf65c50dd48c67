-- One more opposite, and all of them at the end.
use Rattle.std.proofs.Common.{◌≡◌, ℕ, ◌+◌, ◌<◌, List, [], ◌∷◌, ◌++◌, ◌∙◌, length, get_or, take, map, ap, sym}
use Rattle.std.proofs.lemmas.List.{map_more, take_all}
use Rattle.cps_literal.specs.declared.atom.Atom.{Atom}
use Rattle.cps_p_bool.specs.Folding.{opposite_of}
use Rattle.cps_p_bool.proofs.normal.opposites.Goals as goal

-- an element more and its opposite
one_more : (us old new : List Atom) (i : ℕ) (z u : Atom) → i < length us → old ≡ map opposite_of (take i us) → u ≡ opposite_of (get_or us i z) → new ≡ old ++ u ∷ [] → new ≡ map opposite_of (take (i + 1) us)
one_more us old new i z u l h is pushed =
    pushed ∙ ap (λ (v : Atom). old ++ v ∷ []) is ∙ ap (λ (vs : List Atom). vs ++ opposite_of (get_or us i z) ∷ []) h ∙ sym (map_more opposite_of us i z l)

pub loop-atom-preserved : goal.loop-atom-preserved
loop-atom-preserved c = one_more c.args.atoms.now c.loop-atom.opposites.items c.push.new.self.items c.loop-atom.atom-index _ _ c.loop-atom-test.true c.loop-atom.invariant c.opposite.ensures c.in_ok-push.ensures.items

pub returns : goal.returns
returns c = c.loop-atom.invariant ∙ ap (λ (l : List Atom). map opposite_of l) (take_all c.loop-atom.atom-index c.args.atoms.now c.loop-atom-test.false)

use Rattle.std.proofs.Common.{◌≡◌, ◌∙◌, ◌+◌, ◌<◌, ◌++◌, ◌∷◌, [], ℕ, ℤ, List, length, map, take, get_or, ap, sym, rules, FitsSigned}
use Rattle.std.proofs.lemmas.Int.{to_z-of_z}
use mir.Syntax.{w64}
use Rattle.std.proofs.lemmas.List.{append_assoc, map_more}
use Rattle.cps_p_circuit.specs.Graphs.{number}
use Rattle.cps_p_circuit.proofs.decided.add_numbers.Goals as goal

-- one number more
numbers_more : (nodes : List ℤ) (ends : List ℕ) (k : ℕ) (old now new : List ℤ) (v : ℤ) → k < length ends → new ≡ now ++ v ∷ [] → v ≡ number nodes (get_or ends k 0) → now ≡ old ++ map (number nodes) (take k ends) → new ≡ old ++ map (number nodes) (take (k + 1) ends)
numbers_more nodes ends k old now new v l e is h =
    e ∙ ap (λ (ns : List ℤ). ns ++ v ∷ []) h ∙ append_assoc old (map (number nodes) (take k ends)) (v ∷ [])
    ∙ ap (λ (ns : List ℤ). old ++ ns) (ap (λ (w : ℤ). map (number nodes) (take k ends) ++ w ∷ []) is ∙ sym (map_more (number nodes) ends k 0 l))

pub loop-end-preserved : goal.loop-end-preserved
loop-end-preserved c =
    let is : c.from.result ≡ number c.args.nodes.now (get_or c.args.ends.now c.loop-end.end-index 0) = search rules in
    let fits : FitsSigned w64 c.from.result = search rules in
    let pushed = rw (to_z-of_z w64 c.from.result fits) at c.in_ok-push.ensures.items in
    numbers_more c.args.nodes.now c.args.ends.now c.loop-end.end-index c.args.numbers.now.items c.loop-end.numbers.items _ c.from.result c.loop-end-test.true pushed is c.loop-end.invariant

-- One atom more.
use Rattle.std.proofs.Common.{◌<◌, ◌++◌, ◌∷◌, [], List, length, take, sym, ◌∙◌, ap, arith}
use Rattle.std.proofs.lemmas.List.{take_more}
use Rattle.cps_literal.specs.declared.atom.Atom.{Atom}
use Rattle.cps_clauses.specs.Watches.{no_atom}
use Rattle.cps_clauses.proofs.literals.Literals.to_clause.Goals as goal

pub loop-place-preserved : goal.loop-place-preserved
loop-place-preserved c =
    let l : c.loop-place.place < length c.args.self.now = omega (arith, c.loop-place-test.true, c.len-place-end.ensures) in
    c.in_ok-push.ensures.ok ∙ ap (λ (ts : List Atom). ts ++ c.atom.result ∷ []) c.loop-place.invariant ∙ ap (λ (t : Atom). take c.loop-place.place c.args.self.now ++ t ∷ []) c.atom.ensures ∙ sym (take_more c.args.self.now c.loop-place.place no_atom l)

-- What is added was true, and a value may stand in a fact.
use Rattle.std.proofs.Common.{[], ◌∷◌, List, ◌≡◌, true, subst, sym, rules, FitsSigned, w64}
use Rattle.std.proofs.lemmas.Int.{to_z-of_z}
use Rattle.cps_literal.specs.declared.atom.Atom.{Atom}
use Rattle.cps_literal.specs.Truth.{atom_holds}
use Rattle.cps_p_span.specs.Citing.{Cites}
use Rattle.cps_p_span.proofs.Citing.{Cites-push}
use Rattle.cps_p_span.proofs.facts.cite.Goals as goal

pub returns-clause-yes : goal.returns-clause-yes
returns-clause-yes c e =
    let f : FitsSigned w64 c.args.atom.value = search rules in
    let inside = rw (to_z-of_z w64 c.args.atom.value f) at (c.is_inside.ensures.0 c.if-not-is_inside.false) in
    subst (λ (us : List Atom). Cites c.args.past.now (c.args.atom.subject ∷ []) c.args.facts.now.items us (λ xs. atom_holds xs c.args.atom ≡ true)) (sym c.in_ok-push.ensures.items)
    (Cites-push c.args.past.now c.args.facts.now.items c.args.atom c.requires inside (c.truth.ensures.yes.0 (c.is_yes.ensures.0 c.if-not-is_yes.false)))

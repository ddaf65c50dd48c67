-- An atom that the target denies holds where that is false; another one is cited.
use Rattle.std.proofs.Common.{[], ◌∷◌, ◌≡◌, true, false}
use Rattle.cps_literal.specs.Truth.{atom_holds}
use Rattle.cps_p_span.proofs.Citing.{cites_as}
use Rattle.cps_p_span.proofs.facts.cite_unless_denied.Goals as goal

pub returns : goal.returns
returns c e =
    cites_as c.args.past.now (c.args.atom.subject ∷ []) c.args.facts.now.items c.cite.new.facts.items (λ xs. atom_holds xs c.args.atom ≡ true) (λ xs. atom_holds xs c.args.target ≡ false → atom_holds xs c.args.atom ≡ true) (λ xs h n. h) (c.cite.ensures.yes e)

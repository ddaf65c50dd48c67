use Rattle.std.proofs.Common.{ℕ, List, map, take, sym, ◌∙◌, ap}
use Rattle.std.proofs.lemmas.List.{take-map}
use Rattle.cps_literal.specs.declared.atom.Atom.{Atom}
use Rattle.cps_clauses.specs.AtomRanges.{atom_in}
use Rattle.cps_clauses.proofs.atoms.AtomList.truncate.Goals as goal

pub returns : goal.returns
returns c =
    let i = c.self.inside in
    ap (λ (ns : List ℕ). map (atom_in i.literals) ns) c.truncate.ensures.items
    ∙ sym (take-map (atom_in i.literals) c.args.len i.numbers.items) ∙ ap (λ (ts : List Atom). take c.args.len ts) c.self.view_is

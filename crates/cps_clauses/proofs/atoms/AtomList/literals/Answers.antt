use Rattle.std.proofs.Common.{ℕ, List, map, ◌∙◌, ap}
use Rattle.std.specs.Prelude.{slice_range}
use Rattle.cps_literal.specs.declared.atom.Atom.{Atom}
use Rattle.cps_clauses.specs.AtomRanges.{atom_in}
use Rattle.cps_clauses.proofs.Numbered.{part_atoms}
use Rattle.cps_clauses.proofs.atoms.AtomList.literals.Goals as goal

pub returns : goal.returns
returns c =
    let i = c.self.inside in
    c.new.ensures ∙ ap (λ (ns : List ℕ). map (atom_in i.literals) (slice_range ns c.args.atom_range.from c.args.atom_range.to)) c.deref.ensures.value
    ∙ part_atoms i.literals c.args.atom_range.from c.args.atom_range.to i.numbers.items ∙ ap (λ (ts : List Atom). slice_range ts c.args.atom_range.from c.args.atom_range.to) c.self.view_is

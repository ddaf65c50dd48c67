use Rattle.std.proofs.Common.{◌≡◌, ◌++◌, List, length, drop, replicate, ap, ◌∙◌}
use Rattle.std.proofs.lemmas.List.{drop-replicate}
use Rattle.cps_literal.specs.declared.atom.Atom.{Atom}
use Rattle.cps_port.specs.declared.entry.Entry.{Entry}
use Rattle.cps_port.specs.Entries.{most_atoms, blank, padded}
use Rattle.cps_port.proofs.entry.Entry.of.Goals as goal

pub returns : goal.returns
returns c =
    let clause : List Atom = c.args.clause.now in
    let copied : c.copy_from_slice.new.self ≡ clause = c.copy_from_slice.ensures.after in
    let atoms : c.copy_from_slice.new.self ++ drop (length clause) (replicate most_atoms blank) ≡ padded clause =
    ap (λ (l : List Atom). l ++ drop (length clause) (replicate most_atoms blank)) copied ∙ ap (λ (l : List Atom). clause ++ l) (drop-replicate (length clause) most_atoms blank) in
    ap (λ (l : List Atom). let e : Entry = record { row = c.args.row; below = c.args.below; len = length clause; atoms = l } in e) atoms

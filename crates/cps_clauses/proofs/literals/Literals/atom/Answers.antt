-- The atom at a place is the table's, by the number there.
use Rattle.std.proofs.Common.{ℕ, ◌<◌, List, length, get_or, sym, ◌∙◌, ap, subst}
use Rattle.std.proofs.lemmas.List.{get_or-map, length-map}
use Rattle.std.proofs.lemmas.Option.{get_or_from_slice_get}
use Rattle.cps_literal.specs.declared.atom.Atom.{Atom}
use Rattle.cps_clauses.specs.AtomRanges.{atom_in}
use Rattle.cps_clauses.specs.Watches.{no_atom}
use Rattle.cps_clauses.proofs.literals.Literals.atom.Goals as goal

pub bounds-self-inside-place : goal.bounds-self-inside-place
bounds-self-inside-place c =
    subst (λ (n : ℕ). c.args.place < n) (sym (ap (λ (ts : List Atom). length ts) c.self.view_is) ∙ length-map c.self.inside.numbers.now (atom_in c.self.inside.table.now)) c.requires

pub atom-requires : goal.atom-requires
atom-requires c =
    let l : c.args.place < length c.self.inside.numbers.now = subst (λ (n : ℕ). c.args.place < n) (sym (ap (λ (ts : List Atom). length ts) c.self.view_is) ∙ length-map c.self.inside.numbers.now (atom_in c.self.inside.table.now)) c.requires in
    c.self.invariant c.args.place 0 l

pub returns : goal.returns
returns c =
    let l : c.args.place < length c.self.inside.numbers.now = subst (λ (n : ℕ). c.args.place < n) (sym (ap (λ (ts : List Atom). length ts) c.self.view_is) ∙ length-map c.self.inside.numbers.now (atom_in c.self.inside.table.now)) c.requires in
    sym (get_or_from_slice_get c.self.inside.table.now (get_or c.self.inside.numbers.now c.args.place 0) c.atom.result no_atom c.atom.ensures) ∙ sym (get_or-map (atom_in c.self.inside.table.now) c.self.inside.numbers.now c.args.place 0 no_atom l) ∙ ap (λ (ts : List Atom). get_or ts c.args.place no_atom) c.self.view_is

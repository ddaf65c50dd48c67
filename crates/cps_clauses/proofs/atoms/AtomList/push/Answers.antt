-- The table keeps the numbers that it gave, and may give one more.
use Rattle.std.proofs.Common.{ℕ, List, [], ◌∷◌, ◌++◌, map, sym, ◌∙◌, ap, subst}
use Rattle.cps_literal.specs.declared.atom.Atom.{Atom}
use Rattle.cps_literal.specs.Table.{Numbers}
use Rattle.cps_clauses.specs.AtomRanges.{atom_in}
use Rattle.cps_clauses.proofs.Numbered.{AreIn, atoms_kept, atoms_pushed, numbers_kept, numbers_pushed}
use Rattle.cps_clauses.proofs.atoms.AtomList.push.Goals as goal

pub returns-in_default-clause-err : goal.returns-in_default-clause-err
returns-in_default-clause-err c =
    let i = c.self.inside in
    ap (λ (ns : List ℕ). map (atom_in c.number.new.self) ns) c.reserve.ensures.items
    ∙ atoms_kept i.literals c.number.new.self c.args.atom c.in_ok-number.number i.numbers.items c.in_ok-number.ensures.ok c.self.invariant ∙ c.self.view_is

pub invariant_of-self-in_default : goal.invariant_of-self-in_default
invariant_of-self-in_default c =
    let i = c.self.inside in
    subst (λ (ns : List ℕ). AreIn c.number.new.self ns) (sym c.reserve.ensures.items) (numbers_kept i.literals c.number.new.self c.args.atom c.in_ok-number.number i.numbers.items c.in_ok-number.ensures.ok c.self.invariant)

pub invariant_of-self-2 : goal.invariant_of-self-2
invariant_of-self-2 c =
    let i = c.self.inside in
    let h = subst (λ (n : ℕ). Numbers i.literals c.number.new.self c.args.atom n) (sym c.in-Ok.ensures.1) c.in_ok-number.ensures.ok in
    subst (λ (ns : List ℕ). AreIn c.number.new.self ns) (sym (c.push_reserved.ensures.items ∙ ap (λ (ns : List ℕ). ns ++ c.in-Ok.short ∷ []) c.reserve.ensures.items))
    (numbers_pushed i.literals c.number.new.self c.args.atom c.in-Ok.short i.numbers.items h c.self.invariant)

pub returns-clause-ok : goal.returns-clause-ok
returns-clause-ok c =
    let i = c.self.inside in
    let h = subst (λ (n : ℕ). Numbers i.literals c.number.new.self c.args.atom n) (sym c.in-Ok.ensures.1) c.in_ok-number.ensures.ok in
    ap (λ (ns : List ℕ). map (atom_in c.number.new.self) ns) (c.push_reserved.ensures.items ∙ ap (λ (ns : List ℕ). ns ++ c.in-Ok.short ∷ []) c.reserve.ensures.items)
    ∙ atoms_pushed i.literals c.number.new.self c.args.atom c.in-Ok.short i.numbers.items h c.self.invariant
    ∙ ap (λ (ts : List Atom). ts ++ c.args.atom ∷ []) c.self.view_is

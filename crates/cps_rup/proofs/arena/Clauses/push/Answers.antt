-- One clause more, and what was reserved keeps its items.
use Rattle.std.proofs.Common.{◌≡◌, ◌+◌, ◌++◌, ◌∷◌, [], List, length, ◌∙◌, ap, arith}
use Rattle.cps_literal.specs.declared.atom.Atom.{Atom}
use Rattle.cps_rup.specs.declared.arena.AtomRange.{AtomRange}
use Rattle.cps_rup.proofs.Standing.{clauses_pushed}
use Rattle.cps_rup.proofs.arena.Clauses.push.Goals as goal

pub returns-clause-ok : goal.returns-clause-ok
returns-clause-ok c =
    let i = c.self.inside in
    let range = c.in_ok-range.range in
    let first : range.from ≡ length i.atoms.items = omega (arith, c.in_ok-range.ensures.0, c.len.ensures, i.atoms.ok.0) in
    let last : range.to ≡ length i.atoms.items + length c.args.clause.now = omega (arith, c.in_ok-range.ensures.1, c.len.ensures, i.atoms.ok.0) in
    clauses_pushed i.atoms.items c.extend_from_slice.new.self.items c.args.clause.now i.atom_ranges.items c.push_reserved.new.self.items range
    c.in_ok-extend_from_slice.ensures.items (c.push_reserved.ensures.items ∙ ap (λ (l : List AtomRange). l ++ (range ∷ [])) c.reserve.ensures.items) first last c.self.invariant
    ∙ ap (λ (cs : List (List Atom)). cs ++ (c.args.clause.now ∷ [])) c.self.view_is

-- What clauses give, more clauses give.
use Rattle.std.specs.Prelude.{Any, Contains}
use Rattle.std.proofs.Common.{List, [], ◌∷◌}
use Rattle.cps_literal.specs.declared.atom.Atom.{Atom}
use Rattle.cps_unit.specs.Boxes.{Box, with_atom}
use Rattle.cps_unit.specs.Propagation.{IsUnit, IsFalseClause, Forces, LeadsToConflict}

any_among : (few more : List (List Atom)) (P : List Atom → Type 0) → ((c : List Atom) → Contains few c → Contains more c) → Any P few → Any P more
any_among few more P among a = let w = among a.1 (a.0, a.2, a.3) in (w.0, a.1, w.1, w.2, a.4)

forces_among : (few more : List (List Atom)) (box : Box) (ts : List Atom) → ((c : List Atom) → Contains few c → Contains more c) → Forces few box ts → Forces more box ts
forces_among few more box [] among f = any_among few more (IsFalseClause box) among f
forces_among few more box (t ∷ ts) among f = (any_among few more (IsUnit box t) among f.0, forces_among few more (with_atom box t) ts among f.1)

pub leads_among : (few more : List (List Atom)) (box : Box) → ((c : List Atom) → Contains few c → Contains more c) → LeadsToConflict few box → LeadsToConflict more box
leads_among few more box among l = record { forced = l.forced; forces = forces_among few more box l.forced among l.forces }

use Rattle.std.proofs.Common.{List, length, ap, subst, arith}
use Rattle.cps_literal.specs.declared.atom.Atom.{Atom}
use Rattle.cps_clauses.specs.InForce.{IsNumberInForce}
use Rattle.cps_clauses.specs.Bases.{Base}
use Rattle.cps_clauses.proofs.ClausesInForce.{some_held}
use Rattle.cps_clauses.proofs.base.ClauseBase.atom_of.Goals as goal

-- a clause that has an atom was not dropped
pub returns-clause-in_force : goal.returns-clause-in_force
returns-clause-in_force c = λ some.
    let long = ap (λ (ts : List Atom). length ts) c.clause-atoms.ensures in
    subst (λ (b : Base). IsNumberInForce b.clauses b.dropped c.args.clause) c.self.view_is
    (some_held c.self.inside.clauses c.self.inside.dropped.items c.args.clause c.self.invariant.sound.blank (omega (arith, c.if-number-len.false, c.len.ensures)) (omega (arith, c.if-place-len.false, c.len-2.ensures, long)))

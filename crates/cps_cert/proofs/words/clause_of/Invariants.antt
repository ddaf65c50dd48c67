-- The text is that of the atoms so far and the rest; a clause whose text it is begins with these atoms.
use Rattle.std.proofs.Common.{◌≡◌, List, ◌++◌, length}
use Rattle.cps_literal.specs.declared.atom.Atom.{Atom}
use Rattle.cps_log.specs.Writing.{clause_text}
use Rattle.cps_log.specs.Fitting.{FitsClause}
use Rattle.cps_cert.proofs.words.clause_of.Given as goal

abbrev pub invariant-loop-rest : goal.invariant-loop-rest
invariant-loop-rest l = record {
  fits : FitsClause l.clause;
  text : l.text ≡ clause_text l.clause ++ l.rest;
  begins : (c : List Atom) → FitsClause c → l.text ≡ clause_text c → (more : List Atom) × (FitsClause more × (l.rest ≡ clause_text more));
}

abbrev pub decreases-loop-rest : goal.decreases-loop-rest
decreases-loop-rest l = length l.rest

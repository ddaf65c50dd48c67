-- The atoms so far are over the subjects.
use Rattle.std.proofs.Common.{ℕ, ◌<◌, get_or}
use Rattle.cps_literal.specs.declared.atom.Atom.{Atom}
use Rattle.cps_log.specs.Subjects.{IsAtomOver}
use Rattle.cps_subjects.proofs.atoms.is_over.Given as goal

abbrev pub invariant-loop-atom : goal.invariant-loop-atom
invariant-loop-atom l = record {
  over : (k : ℕ) (d : Atom) → k < l.atom-index → IsAtomOver l.count (get_or l.clause k d);
}

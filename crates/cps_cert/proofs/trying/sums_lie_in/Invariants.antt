-- The sums of the atoms so far lie in the box.
use Rattle.std.proofs.Common.{ℕ, ◌<◌, get_or}
use Rattle.cps_literal.specs.declared.atom.Atom.{Atom}
use Rattle.cps_rup.specs.Domains.{box_in}
use Rattle.cps_cert.specs.Trying.{LiesIn}
use Rattle.cps_cert.proofs.trying.sums_lie_in.Given as goal

abbrev pub invariant-loop-atom : goal.invariant-loop-atom
invariant-loop-atom l = (i : ℕ) (d : Atom) → i < l.atom-index → LiesIn l.trial.model.now.variables l.trial.sums.now (box_in l.trial.domains.now) l.values (get_or l.trial.clause.now i d)

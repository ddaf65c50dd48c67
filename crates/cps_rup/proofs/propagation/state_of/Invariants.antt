-- Of the atoms so far all are false, or all but the open one.
use Rattle.cps_rup.specs.Domains.{box_in}
use Rattle.cps_rup.proofs.ClauseStates.{Seen}
use Rattle.cps_rup.proofs.propagation.state_of.Given as goal

abbrev pub invariant-loop-atom : goal.invariant-loop-atom
invariant-loop-atom l = Seen (box_in l.domains) l.clause l.atom-index l.open

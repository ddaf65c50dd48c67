-- The items so far are accepted, and the ledger has them.
use Rattle.std.proofs.Common.{length}
use Rattle.cps_log.specs.Deriving.{empty_derivation}
use Rattle.cps_cert.specs.Ledgers.{derivation_of, IsLedger}
use Rattle.cps_cert.specs.Lines.{in_log}
use Rattle.cps_cert.specs.Progress.{Passes}
use Rattle.cps_cert.proofs.checking.take_log.Given as goal

abbrev pub invariant-loop-line : goal.invariant-loop-line
invariant-loop-line l = record {
  passes : Passes l.model (in_log l.claim empty_derivation) l.fn.start.rest.now l.fn.start.number (in_log l.claim (derivation_of l.ledger)) l.cursor.rest.now l.cursor.number;
  ledger : IsLedger l.model l.ledger;
}

abbrev pub decreases-loop-line : goal.decreases-loop-line
decreases-loop-line l = length l.cursor.rest.now

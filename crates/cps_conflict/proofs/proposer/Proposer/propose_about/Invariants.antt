use Rattle.std.specs.Prelude.{◌≤◌, length}
use Rattle.cps_trail.specs.Changes.{IsEntryOn}
use Rattle.cps_conflict.proofs.proposer.Proposer.propose_about.Given as goal

abbrev pub invariant-loop-found : goal.invariant-loop-found
invariant-loop-found l = record {
  within : l.found ≤ length l.store.entries;
  here : IsEntryOn l.store.entries l.subject l.found;
}

abbrev pub decreases-loop-found : goal.decreases-loop-found
decreases-loop-found l = l.found

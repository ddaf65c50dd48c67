use Rattle.std.specs.Prelude.{◌≤◌, length}
use Rattle.cps_trail.specs.Changes.{IsEntryOn}
use Rattle.cps_conflict.proofs.certifier.Certifier.is_ruled_out.Given as goal

abbrev pub invariant-loop-count : goal.invariant-loop-count
invariant-loop-count l = record {
  within : l.count ≤ length l.store.entries;
  here : IsEntryOn l.store.entries l.atom.subject l.count;
}

abbrev pub decreases-loop-count : goal.decreases-loop-count
decreases-loop-count l = l.count

-- The worker has not ended, and of the port only what its actor knows has changed.
use Rattle.std.proofs.Common.{◌≡◌, ◌≤◌, length}
use Rattle.cps_search.specs.Ends.{IsOver}
use Rattle.cps_search.specs.Keeps.{Keeps}
use Rattle.cps_worker_tests.proofs.turns.turns_of.Given as goal

abbrev pub invariant-loop : goal.invariant-loop
invariant-loop g l = record {
  running : IsOver l.worker.0.phase → ⊥;
  model : g.Q.Port.model l.port ≡ l.worker.0.instance.model;
  imported : l.worker.0.imported ≤ length (g.Q.Port.part l.port).board.taken;
  keeps : Keeps g.Q.Port.model g.Q.Port.rows g.Q.Port.stays l.fn.port l.port;
}

-- The worker has not ended, and goes on over the same model.
use Rattle.std.proofs.Common.{◌≡◌, ◌≤◌, length}
use Rattle.cps_search.specs.Ends.{IsOver}
use Rattle.cps_core_guided.specs.Reforming.{whole}
use Rattle.cps_worker_tests.proofs.cores.reforms_and_runs.Given as goal

abbrev pub invariant-loop : goal.invariant-loop
invariant-loop g l = record {
  running : IsOver (whole l.worker.0).phase → ⊥;
  model : g.Q.Port.model l.port ≡ l.worker.0.search.instance.model;
  imported : l.worker.0.search.imported ≤ length (g.Q.Port.part l.port).board.taken;
}

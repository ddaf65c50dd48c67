-- Each worker that is not over may take another turn.
use Rattle.std.specs.Prelude.{false}
use Rattle.std.proofs.Common.{◌≡◌, ◌≤◌, length}
use Rattle.cps_search.specs.Ends.{IsOver}
use Rattle.cps_worker_tests.proofs.tables.turn_about.Given as goal

abbrev pub invariant-loop : goal.invariant-loop
invariant-loop g l = record {
  first_runs : l.first_over ≡ false → IsOver l.first.0.phase → ⊥;
  first_model : g.Q.Port.model l.first_port ≡ l.first.0.instance.model;
  first_imported : l.first.0.imported ≤ length (g.Q.Port.part l.first_port).board.taken;
  second_runs : l.second_over ≡ false → IsOver l.second.0.phase → ⊥;
  second_model : g.Q.Port.model l.second_port ≡ l.second.0.instance.model;
  second_imported : l.second.0.imported ≤ length (g.Q.Port.part l.second_port).board.taken;
}

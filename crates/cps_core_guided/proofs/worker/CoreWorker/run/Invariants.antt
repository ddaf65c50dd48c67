use Rattle.std.proofs.Common.{◌≡◌}
use Rattle.cps_search.specs.Ends.{IsOver}
use Rattle.cps_search.specs.Keeps.{Keeps}
use Rattle.cps_core_guided.specs.CoreTurns.{TakesCoreTurns}
use Rattle.cps_core_guided.specs.Reforming.{whole}
use Rattle.cps_core_guided.proofs.CoreTermination.{core_left}
use Rattle.cps_core_guided.proofs.CoreRuns.{HasCoreRun}
use Rattle.cps_core_guided.proofs.worker.CoreWorker.run.Given as goal

abbrev pub invariant-turns : goal.invariant-turns
invariant-turns g l = record {
  running : IsOver (whole l.self.0).phase → ⊥;
  run : HasCoreRun l.fn.self.0 l.self.0 (g.Q.Port.part l.fn.port) (g.Q.Port.part l.port);
  turns : TakesCoreTurns g.B.Brancher.chooses g.B.Brancher.hears g.B.Brancher.stays (g.Q.Port.rows l.fn.port) l.fn.self (g.Q.Port.part l.fn.port) l.self (g.Q.Port.part l.port);
  keeps : Keeps g.Q.Port.model g.Q.Port.rows g.Q.Port.stays l.fn.port l.port;
  guidance : g.B.Brancher.guidance l.self.1 ≡ g.B.Brancher.guidance l.fn.self.1;
}

abbrev pub decreases-turns : goal.decreases-turns
decreases-turns g l = core_left l.self.0 (g.Q.Port.rows l.fn.port) (g.Q.Port.part l.port).board

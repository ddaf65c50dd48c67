use Rattle.std.proofs.Common.{◌+◌, []}
use Rattle.cps_trail.specs.Trail.{open_values}
use Rattle.cps_search.specs.Ends.{IsOver}
use Rattle.cps_search.specs.Keeps.{Keeps}
use Rattle.cps_neighbourhood.specs.Nears.{TakesNearTurns}
use Rattle.cps_neighbourhood.proofs.LearntCounts.{HasNearRun}
use Rattle.cps_neighbourhood.proofs.RoundTermination.{near_left}
use Rattle.cps_neighbourhood.proofs.near.NearWorker.run.Given as goal

abbrev pub invariant-turns : goal.invariant-turns
invariant-turns g l = record {
  running : IsOver l.self.search.phase → ⊥;
  run : HasNearRun l.fn.self l.self (g.Q.Port.part l.fn.port) (g.Q.Port.part l.port);
  turns : TakesNearTurns (g.Q.Port.rows l.fn.port) l.fn.self (g.Q.Port.part l.fn.port) l.self (g.Q.Port.part l.port);
  keeps : Keeps g.Q.Port.model g.Q.Port.rows g.Q.Port.stays l.fn.port l.port;
}

abbrev pub decreases-turns : goal.decreases-turns
decreases-turns g l = near_left (open_values l.fn.self.search.instance.domains [] + 1) l.self (g.Q.Port.rows l.fn.port) (g.Q.Port.part l.port).board

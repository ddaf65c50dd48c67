-- The worker took turns so far, none of which ended it.
use Rattle.std.proofs.Common.{◌≡◌}
use Rattle.cps_search.specs.Ends.{IsOver}
use Rattle.cps_search.specs.Keeps.{Keeps}
use Rattle.cps_crew.specs.Workers.{search_in, kind_in, TakesTurnsAs}
use Rattle.cps_crew.proofs.MemberRuns.{left_in}
use Rattle.cps_crew.proofs.member.run.Given as goal

abbrev pub invariant-turns : goal.invariant-turns
invariant-turns g l = record {
  running : IsOver (search_in (g.W.Member.known l.worker)).phase → ⊥;
  turns : TakesTurnsAs (g.Q.Port.rows l.fn.port) (g.W.Member.known l.fn.worker) (g.W.Member.known l.worker) (g.Q.Port.part l.fn.port) (g.Q.Port.part l.port);
  kind : kind_in (g.W.Member.known l.worker) ≡ kind_in (g.W.Member.known l.fn.worker);
  keeps : Keeps g.Q.Port.model g.Q.Port.rows g.Q.Port.stays l.fn.port l.port;
  pool : g.F.Pool.model l.pool ≡ g.F.Pool.model l.fn.pool;
  is_read : g.F.Pool.is_read l.pool ≡ g.F.Pool.is_read l.fn.pool;
}

abbrev pub decreases-turns : goal.decreases-turns
decreases-turns g l = left_in (g.W.Member.known l.worker) (g.Q.Port.rows l.fn.port) (g.Q.Port.part l.port).board

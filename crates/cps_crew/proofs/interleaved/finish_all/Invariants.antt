use Rattle.std.proofs.Common.{◌≡◌, ◌++◌, All, map, vec_len}
use Rattle.cps_search.specs.Ends.{IsOver}
use Rattle.cps_crew.specs.Workers.{search_in}
use Rattle.cps_crew.specs.Turning.{ended_of}
use Rattle.cps_crew.proofs.interleaved.finish_all.Given as goal

abbrev pub invariant-loop-turning : goal.invariant-loop-turning
invariant-loop-turning g l = record {
  over : All (λ c. IsOver (search_in (g.W.Member.known c.worker)).phase) l.crew.items;
  ended : map (ended_of g.W.Member.known) l.crew.items ++ l.ends.items ≡ map (ended_of g.W.Member.known) l.initial.crew.items;
}

abbrev pub decreases-loop-turning : goal.decreases-loop-turning
decreases-loop-turning g l = vec_len l.crew

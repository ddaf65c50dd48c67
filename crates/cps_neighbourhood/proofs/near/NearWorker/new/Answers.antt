-- A worker whose memory was not refused is seen as it is.
use Rattle.std.proofs.Common.{subst, sym}
use Rattle.cps_search.specs.Searches.{IsSoundSearch}
use Rattle.cps_neighbourhood.specs.Nears.{Near}
use Rattle.cps_neighbourhood.proofs.WorkerViews.{as_running}
use Rattle.cps_neighbourhood.proofs.near.NearWorker.new.Goals as goal

pub returns-clause-sound : goal.returns-clause-sound
returns-clause-sound g c =
    let h = c.in_ok-explorer.ensures.exploring in
    subst (λ (n : Near). IsSoundSearch n.search) (sym (as_running c.in_ok-explorer.explorer h)) h.sound

pub invariant_of-result : goal.invariant_of-result
invariant_of-result g c = λ _. c.in_ok-explorer.ensures.exploring

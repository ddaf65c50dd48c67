-- Where no worker is made, the port is left as it was.
use Rattle.cps_search.proofs.Keeps.{keeps_none}
use Rattle.cps_worker_tests.proofs.turns.turns_by_activity.Goals as goal

pub returns-in_err-push : goal.returns-in_err-push
returns-in_err-push g c = record { keeps = keeps_none _ _ _ g.met.Q.Port.unmoved _ }

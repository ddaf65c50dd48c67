-- A core-guided worker begins with the objective's first form, and has the model's hint.
use Rattle.cps_portfolio.proofs.worker.AnyWorkerRecruit.of.Goals as goal

pub returns-in_ok-core_worker-in-CoreGuided-clause-begins : goal.returns-in_ok-core_worker-in-CoreGuided-clause-begins
returns-in_ok-core_worker-in-CoreGuided-clause-begins c = let k = c.in_ok-core_worker-in-CoreGuided.ensures in record { begins = k.begins; guide = k.hints; idle = k.idle }

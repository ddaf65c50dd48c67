use Rattle.cps_neighbourhood.proofs.LearntCounts.{near_honest}
use Rattle.cps_neighbourhood.proofs.laws.ended_near_workers_are_honest.Goals as goal

pub returns : goal.returns
returns c = λ p gap conflicts rows draws s t before after end begins h offered raised. near_honest p gap conflicts rows draws s t before after end begins h offered raised

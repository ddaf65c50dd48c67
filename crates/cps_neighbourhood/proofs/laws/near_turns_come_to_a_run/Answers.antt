use Rattle.cps_neighbourhood.proofs.LearntCounts.{near_turns_run}
use Rattle.cps_neighbourhood.proofs.laws.near_turns_come_to_a_run.Goals as goal

pub returns : goal.returns
returns c = λ rows s t p q end h. near_turns_run rows s t p q end h

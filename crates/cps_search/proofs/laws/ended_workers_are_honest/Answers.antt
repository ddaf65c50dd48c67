use Rattle.cps_search.proofs.RunEnds.{honest_ending}
use Rattle.cps_search.proofs.laws.ended_workers_are_honest.Goals as goal

pub returns : goal.returns
returns c = λ p gap budget log t before after kind guidance end complete runs sound offered raised. honest_ending p gap budget log t before after kind guidance end complete runs sound offered raised

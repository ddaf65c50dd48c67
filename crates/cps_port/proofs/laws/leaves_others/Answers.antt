use Rattle.cps_port.proofs.ActorEvents.{others_stay}
use Rattle.cps_port.proofs.laws.leaves_others.Goals as goal

pub returns : goal.returns
returns c = others_stay

use Rattle.cps_port.proofs.SeenBounds as seeing
use Rattle.cps_port.proofs.laws.saw_the_upper.Goals as goal

pub returns : goal.returns
returns c = seeing.saw_the_upper

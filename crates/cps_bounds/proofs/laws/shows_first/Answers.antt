use Rattle.cps_bounds.proofs.Events as laws
use Rattle.cps_bounds.proofs.laws.shows_first.Goals as goal

pub returns : goal.returns
returns c = laws.shows_first

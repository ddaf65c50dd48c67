use Rattle.cps_board.proofs.Events as laws
use Rattle.cps_board.proofs.laws.shows_first.Goals as goal

pub returns : goal.returns
returns c = laws.shows_first

use Rattle.cps_board.proofs.OneList as laws
use Rattle.cps_board.proofs.laws.takes_one_list.Goals as goal

pub returns : goal.returns
returns c = laws.takes_one_list

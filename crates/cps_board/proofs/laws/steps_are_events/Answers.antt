use Rattle.cps_board.proofs.Events as laws
use Rattle.cps_board.proofs.laws.steps_are_events.Goals as goal

pub returns : goal.returns
returns c = laws.steps_are_events

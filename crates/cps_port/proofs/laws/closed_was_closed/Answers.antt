use Rattle.cps_port.proofs.Causes as causes
use Rattle.cps_port.proofs.laws.closed_was_closed.Goals as goal

pub returns : goal.returns
returns c = causes.closed_was_closed

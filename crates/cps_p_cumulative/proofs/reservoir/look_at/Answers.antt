-- What is seen of the tank is what its levels say.
use Rattle.cps_p_cumulative.proofs.reservoir.look_at.Goals as goal

pub passing-requires-clause-tank : goal.passing-requires-clause-tank
passing-requires-clause-tank c = c.requires.tank

pub propose-requires-clause-tank : goal.propose-requires-clause-tank
propose-requires-clause-tank c = c.requires.tank

-- What is overloaded cannot hold, and where nothing is the loads have room.
use Rattle.cps_p_cumulative.proofs.cumulative.look_at.Goals as goal

pub first_overload-requires-clause-inside : goal.first_overload-requires-clause-inside
first_overload-requires-clause-inside c = c.requires.inside

pub first_overload-requires-clause-demands : goal.first_overload-requires-clause-demands
first_overload-requires-clause-demands c = c.requires.demands

pub propose-requires-clause-resource : goal.propose-requires-clause-resource
propose-requires-clause-resource c = c.requires.inside

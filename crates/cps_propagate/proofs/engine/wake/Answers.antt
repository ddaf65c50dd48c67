use Rattle.cps_propagate.proofs.Beginning.{all_begin, some_begin}
use Rattle.cps_propagate.proofs.engine.wake.Goals as goal

pub returns-in-None-clause-rest : goal.returns-in-None-clause-rest
returns-in-None-clause-rest c = all_begin _ _ _ _ _ _ _ c.wake_all.ensures.wait

pub returns-in-Some-clause-rest : goal.returns-in-Some-clause-rest
returns-in-Some-clause-rest c = some_begin _ _ _ _ _ _ _ _ c.in-Some.is c.wake_from.ensures.rest

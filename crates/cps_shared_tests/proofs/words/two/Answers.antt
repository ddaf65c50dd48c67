use Rattle.cps_shared_tests.proofs.WorkedFloors.{floor_two}
use Rattle.cps_shared_tests.proofs.words.two.Goals as goal

pub returns-clause-low : goal.returns-clause-low
returns-clause-low c = floor_two c.args.model.now c.requires

use Rattle.cps_conflict.proofs.LevelZero.{forced_to}
use Rattle.cps_conflict.proofs.laws.first_entries_are_forced.Goals as goal

pub returns : goal.returns
returns c = forced_to

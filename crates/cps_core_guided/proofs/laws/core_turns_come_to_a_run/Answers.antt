use Rattle.cps_core_guided.proofs.CoreRuns.{core-turns-run}
use Rattle.cps_core_guided.proofs.laws.core_turns_come_to_a_run.Goals as goal

pub returns : goal.returns
returns g c = λ rows s t p q end h sound. core-turns-run g.B.Brancher.chooses g.B.Brancher.hears g.B.Brancher.stays rows s t p q end h sound

use Rattle.cps_search.proofs.WorkerInvariants.{turns_run}
use Rattle.cps_search.proofs.laws.turns_come_to_a_run.Goals as goal

pub returns : goal.returns
returns g c = λ rows s t p q end h sound. turns_run g.B.Brancher.chooses g.B.Brancher.hears g.B.Brancher.stays rows s t p q end h sound

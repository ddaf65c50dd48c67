use Rattle.cps_core_guided.proofs.CoreEnds.{core-honest}
use Rattle.cps_core_guided.proofs.laws.ended_core_workers_are_honest.Goals as goal

pub returns : goal.returns
returns g c = λ p gap budget rows s t before after end begins h first last offered raised.
    core-honest g.B.Brancher.chooses g.B.Brancher.hears g.B.Brancher.stays p gap budget rows s t before after end begins h first last offered raised

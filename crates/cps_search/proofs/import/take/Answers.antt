use Rattle.cps_search.proofs.Keeps.{keeps_then}
use Rattle.cps_search.proofs.import.take.Goals as goal

pub returns-in-Entry-clause-keeps : goal.returns-in-Entry-clause-keeps
returns-in-Entry-clause-keeps g c = keeps_then _ _ _ g.met.Q.Port.moved_on _ _ _ (record { model = c.take.ensures.same.0; rows = c.take.ensures.same.1; others = c.take.ensures.others }) c.look_again.ensures.keeps

pub returns-in-NotYet-clause-keeps : goal.returns-in-NotYet-clause-keeps
returns-in-NotYet-clause-keeps g c = record { model = c.take.ensures.same.0; rows = c.take.ensures.same.1; others = c.take.ensures.others }

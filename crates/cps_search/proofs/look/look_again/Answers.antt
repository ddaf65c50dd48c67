use Rattle.cps_search.proofs.Keeps.{keeps_none}
use Rattle.cps_search.proofs.look.look_again.Goals as goal

pub returns-then-is_at_most-clause-keeps : goal.returns-then-is_at_most-clause-keeps
returns-then-is_at_most-clause-keeps g c = keeps_none _ _ _ g.met.Q.Port.unmoved _

pub returns-clause-keeps : goal.returns-clause-keeps
returns-clause-keeps g c = record { model = c.upper.ensures.same.0; rows = c.upper.ensures.same.1; others = c.upper.ensures.others }

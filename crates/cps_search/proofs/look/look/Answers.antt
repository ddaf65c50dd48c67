use Rattle.cps_search.proofs.Keeps.{keeps_then}
use Rattle.cps_search.proofs.look.look.Goals as goal

pub returns-then-is_closed-clause-keeps : goal.returns-then-is_closed-clause-keeps
returns-then-is_closed-clause-keeps g c = keeps_then _ _ _ g.met.Q.Port.moved_on _ _ _ (record { model = c.lower-lower.ensures.same.0; rows = c.lower-lower.ensures.same.1; others = c.lower-lower.ensures.others }) (record { model = c.upper-upper.ensures.same.0; rows = c.upper-upper.ensures.same.1; others = c.upper-upper.ensures.others })

pub returns-clause-keeps : goal.returns-clause-keeps
returns-clause-keeps g c = keeps_then _ _ _ g.met.Q.Port.moved_on _ _ _ (record { model = c.lower-lower.ensures.same.0; rows = c.lower-lower.ensures.same.1; others = c.lower-lower.ensures.others }) (record { model = c.upper-upper.ensures.same.0; rows = c.upper-upper.ensures.same.1; others = c.upper-upper.ensures.others })

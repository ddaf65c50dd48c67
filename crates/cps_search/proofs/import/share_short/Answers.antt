use Rattle.cps_search.proofs.Keeps.{keeps_none}
use Rattle.cps_search.proofs.import.share_short.Goals as goal

pub returns-then-not-is_short-clause-keeps : goal.returns-then-not-is_short-clause-keeps
returns-then-not-is_short-clause-keeps g c = keeps_none _ _ _ g.met.Q.Port.unmoved _

pub returns-in-Row-clause-keeps : goal.returns-in-Row-clause-keeps
returns-in-Row-clause-keeps g c = record { model = c.share.ensures.same.0; rows = c.share.ensures.same.1; others = c.share.ensures.others }

pub returns-in-Full-clause-keeps : goal.returns-in-Full-clause-keeps
returns-in-Full-clause-keeps g c = record { model = c.share.ensures.same.0; rows = c.share.ensures.same.1; others = c.share.ensures.others }

use Rattle.std.proofs.Common.{◌∙◌, ap}
use Rattle.cps_clauses.specs.Bases.{Base}
use Rattle.cps_clauses.proofs.base.ClauseBase.last_learnt.Goals as goal

pub returns : goal.returns
returns c = λ earlier clause below is. c.last_learnt.ensures earlier clause below (ap (λ (b : Base). b.journal) c.self.view_is ∙ is)

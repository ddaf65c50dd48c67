-- The rules give the law.
use Rattle.std.proofs.Common.{subst}
use Rattle.cps_validate.specs.Laws.{IsBetweenLeastAndGreatest}
use Rattle.cps_validate.proofs.Lawful.{between}
use Rattle.cps_validate.proofs.laws.values_lie_between.Goals as goal

pub returns : goal.returns
returns c = subst IsBetweenLeastAndGreatest c.model.ensures.same (between c.model.result.now c.model.ensures.valid)

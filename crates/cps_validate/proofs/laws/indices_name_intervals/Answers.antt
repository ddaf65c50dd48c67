-- The rules give the law.
use Rattle.std.proofs.Common.{subst}
use Rattle.cps_validate.specs.Laws.{NamesIntervals}
use Rattle.cps_validate.proofs.Lawful.{indices}
use Rattle.cps_validate.proofs.laws.indices_name_intervals.Goals as goal

pub returns : goal.returns
returns c = subst NamesIntervals c.model.ensures.same (indices c.model.result.now c.model.ensures.valid)

-- The rules give the law.
use Rattle.std.proofs.Common.{subst}
use Rattle.cps_validate.specs.Laws.{HasPositiveModuli}
use Rattle.cps_validate.proofs.Lawful.{moduli}
use Rattle.cps_validate.proofs.laws.moduli_are_positive.Goals as goal

pub returns : goal.returns
returns c = subst HasPositiveModuli c.model.ensures.same (moduli c.model.result.now c.model.ensures.valid)

-- The rules give the law.
use Rattle.std.proofs.Common.{subst}
use Rattle.cps_validate.specs.Laws.{DividesByNoZero}
use Rattle.cps_validate.proofs.Lawful.{divisors}
use Rattle.cps_validate.proofs.laws.divisors_are_not_zero.Goals as goal

pub returns : goal.returns
returns c = subst DividesByNoZero c.model.ensures.same (divisors c.model.result.now c.model.ensures.valid)

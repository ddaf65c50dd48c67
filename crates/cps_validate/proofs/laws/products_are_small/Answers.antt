-- The rules give the law.
use Rattle.std.proofs.Common.{subst}
use Rattle.cps_validate.specs.Laws.{HasSmallProducts}
use Rattle.cps_validate.proofs.Lawful.{products}
use Rattle.cps_validate.proofs.laws.products_are_small.Goals as goal

pub returns : goal.returns
returns c = subst HasSmallProducts c.model.ensures.same (products c.model.result.now c.model.ensures.valid)

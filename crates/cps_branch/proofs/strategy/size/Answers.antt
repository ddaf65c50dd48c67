-- The values are those of the domain's intervals.
use Rattle.cps_branch.proofs.Values.{has_size}
use Rattle.cps_branch.proofs.strategy.size.Goals as goal

pub returns : goal.returns
returns c = has_size c.args.store.now c.args.subject c.domain-domain.result.now c.size.result c.min.ensures.domain c.domain-domain.ensures c.size.ensures

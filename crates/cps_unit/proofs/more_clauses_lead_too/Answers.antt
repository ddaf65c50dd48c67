use Rattle.cps_unit.proofs.Among.{leads_among}
use Rattle.cps_unit.proofs.more_clauses_lead_too.Goals as goal

pub returns : goal.returns
returns c = leads_among

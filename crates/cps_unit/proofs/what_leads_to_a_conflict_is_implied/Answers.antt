use Rattle.cps_unit.proofs.Implied.{implied}
use Rattle.cps_unit.proofs.what_leads_to_a_conflict_is_implied.Goals as goal

pub returns : goal.returns
returns c = implied

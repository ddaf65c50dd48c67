-- The span is one of the store.
use Rattle.cps_p_cumulative.proofs.charge.claim_of.Goals as goal

pub seems_present-requires : goal.seems_present-requires
seems_present-requires c = c.requires.span

pub stay_of-stay-requires : goal.stay_of-stay-requires
stay_of-stay-requires c = c.requires.span

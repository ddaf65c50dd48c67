use Rattle.cps_p_cumulative.proofs.SpanDemands.{resource-inside}
use Rattle.cps_p_cumulative.proofs.cumulative.CumulativeRule.refute.Goals as goal

pub refute_window-requires : goal.refute_window-requires
refute_window-requires c = resource-inside c.args.past.now.first c.args.self.now.resource c.requires.fits

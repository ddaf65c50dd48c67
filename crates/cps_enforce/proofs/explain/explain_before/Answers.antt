use Rattle.cps_enforce.proofs.Tasks.{fits_negatable}
use Rattle.cps_enforce.proofs.explain.explain_before.Goals as goal

pub force_of-requires : goal.force_of-requires
force_of-requires g c = (fits_negatable c.args.past.now.first c.args.enforcement.now (g.R.Rule.body c.args.rule.now) c.requires.fits).subjects

use Rattle.std.specs.Prelude.{length}
use Rattle.cps_p_interval.proofs.interval.opposition.Goals as goal

pub returns-then-hint-eq0 : goal.returns-then-hint-eq0
returns-then-hint-eq0 c = c.negative_size.ensures (length c.args.past.now.first) c.requires

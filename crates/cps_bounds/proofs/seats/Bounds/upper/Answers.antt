use Rattle.std.proofs.Common.{rules}
use Rattle.cps_bounds.proofs.Keeps.{sees_upper}
use Rattle.cps_bounds.proofs.seats.Bounds.upper.Goals as goal

pub load-requires : goal.load-requires
load-requires c = (search rules, search rules, sees_upper _ _ _ _ (search rules))

use Rattle.std.proofs.Common.{rules}
use Rattle.cps_bounds.proofs.Keeps.{sees_lower}
use Rattle.cps_bounds.proofs.seats.Bounds.lower.Goals as goal

pub load-requires : goal.load-requires
load-requires c = (search rules, search rules, sees_lower _ _ _ _ (search rules))

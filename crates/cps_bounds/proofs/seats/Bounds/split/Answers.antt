use Rattle.std.proofs.Common.{rules}
use Rattle.cps_bounds.proofs.Keeps.{splits}
use Rattle.cps_bounds.proofs.seats.Bounds.split.Goals as goal

pub split_seat-other-requires : goal.split_seat-other-requires
split_seat-other-requires c = (search rules, search rules, splits _ _ _ (search rules))

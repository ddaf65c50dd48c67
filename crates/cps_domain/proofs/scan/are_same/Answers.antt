use Rattle.std.proofs.lemmas.Slice.Eq.{slice_eq-Decides}
use Rattle.cps_domain.proofs.Meeting.{pair_Decides}
use Rattle.cps_domain.proofs.scan.are_same.Goals as goal

pub returns : goal.returns
returns c = slice_eq-Decides pair_Decides c.args.one.now c.args.other.now c.eq.result c.eq.ensures

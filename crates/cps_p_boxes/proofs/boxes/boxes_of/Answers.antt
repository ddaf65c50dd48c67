use Rattle.cps_p_span.proofs.Timing.{IfSome-map}
use Rattle.cps_p_boxes.proofs.Boxing.{boxes_in}
use Rattle.cps_p_boxes.proofs.boxes.boxes_of.Goals as goal

pub returns : goal.returns
returns c = IfSome-map c.pair_of.result (λ p h. boxes_in c.args.x.now c.args.y.now c.count_of.result p c.count_of.ensures h) c.pair_of.ensures

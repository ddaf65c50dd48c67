use Rattle.cps_p_boxes.proofs.Boxing.{leaves_none, box_absent, absent_swapped}
use Rattle.cps_p_boxes.proofs.pairs.clash.Goals as goal

pub returns-then-after-clause-impossible : goal.returns-then-after-clause-impossible
returns-then-after-clause-impossible c e = λ s is has. leaves_none s c.args.x.now c.args.y.now is has c.args.pair c.requires.pair c.requires.in_x c.requires.in_y (c.is_sure-before.ensures.0 c.if-before.true) (c.is_sure-after.ensures.0 c.if-after.true)

pub exclude-requires-clause-absent : goal.exclude-requires-clause-absent
exclude-requires-clause-absent c = λ s is has. box_absent s c.args.x.now c.args.y.now is has c.args.pair c.requires.pair c.requires.in_x c.requires.in_y (c.is_sure-after.ensures.0 c.if-after-2.true)

pub exclude-requires-then-before-2-clause-absent : goal.exclude-requires-then-before-2-clause-absent
exclude-requires-then-before-2-clause-absent c = λ s is has. absent_swapped s c.args.x.now c.args.y.now is has c.args.pair c.swapped.result c.swapped.ensures c.requires.pair c.requires.in_x c.requires.in_y (c.is_sure-before.ensures.0 c.if-before-2.true)

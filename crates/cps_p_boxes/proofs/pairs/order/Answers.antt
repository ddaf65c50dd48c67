use Rattle.std.proofs.lemmas.Result.{on_ok_weaker}
use Rattle.cps_p_boxes.proofs.Boxing.{box_comes, comes_swapped, adds_ordered}
use Rattle.cps_p_boxes.proofs.Settled_boxes.{along_forth, along_back, along_open}
use Rattle.cps_p_boxes.proofs.pairs.order.Goals as goal

pub returns-then-is_late-clause-given : goal.returns-then-is_late-clause-given
returns-then-is_late-clause-given c = on_ok_weaker c.follow.result
    (adds_ordered c.args.along.now c.args.across.now c.args.pair c.args.found.now.items c.follow.new.found.items
    (λ s is has.
    box_comes s c.args.along.now c.args.across.now is has c.args.pair c.requires.pair c.requires.overlap (c.is_sure-before.ensures.0 c.if-not-before.false) (c.is_sure-after.ensures.0 c.if-not-after.false) (c.is_late.ensures.late c.if-is_late.true)))
    c.follow.ensures.given

pub returns-then-is_late-2-clause-given : goal.returns-then-is_late-2-clause-given
returns-then-is_late-2-clause-given c = on_ok_weaker c.follow-then-is_late-2.result
    (adds_ordered c.args.along.now c.args.across.now c.swapped-turned.result c.args.found.now.items c.follow-then-is_late-2.new.found.items
    (λ s is has.
    comes_swapped s c.args.along.now c.args.across.now is has c.args.pair c.swapped-turned.result c.swapped-turned.ensures c.requires.pair c.requires.overlap (c.is_sure-before.ensures.0 c.if-not-before.false) (c.is_sure-after.ensures.0 c.if-not-after.false)
    (c.is_late-2.ensures.late c.if-is_late-2.true)))
    c.follow-then-is_late-2.ensures.given

pub returns-then-is_late-clause-rest : goal.returns-then-is_late-clause-rest
returns-then-is_late-clause-rest c = on_ok_weaker c.follow.result
    (along_forth c.args.along.now c.args.across.now c.args.pair c.requires.pair.along c.args.found.now.items c.follow.new.found.items c.requires.apart (c.is_late.ensures.late c.if-is_late.true))
    c.follow.ensures.rest

pub returns-then-is_late-2-clause-rest : goal.returns-then-is_late-2-clause-rest
returns-then-is_late-2-clause-rest c = on_ok_weaker c.follow-then-is_late-2.result
    (along_back c.args.along.now c.args.across.now c.args.pair c.requires.pair.along c.args.found.now.items c.follow-then-is_late-2.new.found.items c.swapped-turned.result c.swapped-turned.ensures (c.is_late.ensures.open c.if-is_late.false))
    c.follow-then-is_late-2.ensures.rest

pub returns-clause-rest : goal.returns-clause-rest
returns-clause-rest c = along_open c.args.along.now c.args.across.now c.args.pair c.requires.pair.along c.args.found.now.items c.args.found.now.items c.swapped-turned.result c.swapped-turned.ensures (c.is_late.ensures.open c.if-is_late.false) (c.is_late-2.ensures.open c.if-is_late-2.false)

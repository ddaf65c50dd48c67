use Rattle.cps_learning_tests.proofs.bases.settle_three.Goals as goal

pub add-requires : goal.add-requires
add-requires c = c.requires.level

pub add-requires-2 : goal.add-requires-2
add-requires-2 c = c.requires.level

pub add-requires-3 : goal.add-requires-3
add-requires-3 c = c.requires.level

pub settle_from-requires : goal.settle_from-requires
settle_from-requires c = c.in_ok-add-3.ensures 0 (c.in_ok-add-2.ensures 0 (c.in_ok-add.ensures 0 c.requires.ready))

use Rattle.std.proofs.Common.{◌∙◌}
use Rattle.cps_learning_tests.proofs.Settling.{IsBaseReady-rest}
use Rattle.cps_learning_tests.proofs.resting.settle_more.Goals as goal

pub settle-requires : goal.settle-requires
settle-requires c = c.in_ok-add.ensures _ (IsBaseReady-rest c.args.base.now c.args.store.now _ c.entries-from.ensures.views.same_length c.requires.level c.requires.rest)

pub returns-clause-level : goal.returns-clause-level
returns-clause-level c = c.in_ok-settle.ensures.level ∙ c.requires.level

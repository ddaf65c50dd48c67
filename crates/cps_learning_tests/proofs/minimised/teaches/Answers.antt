use Rattle.std.proofs.Common.{arith}
use Rattle.cps_conflict.proofs.Settling.{present_at}
use Rattle.cps_learning_tests.proofs.minimised.teaches.Goals as goal

pub analyse-requires-clause-present : goal.analyse-requires-clause-present
analyse-requires-clause-present c =
    present_at c.args.store.now c.args.row.now.conflict.now c.conflict_level.result c.conflict_level.ensures (omega (arith, c.if-conflict_level-level.false, c.level-level.ensures.is)) (omega (arith, c.if-level-eq0.false, c.level-level.ensures.is))
    (c.all_false.ensures.false_now c.if-not-all_false.false)

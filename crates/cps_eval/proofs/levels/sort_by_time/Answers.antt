-- What a sort by time ensures.
use Rattle.std.proofs.Common.{rules}
use Rattle.std.proofs.lemmas.List.Sorted.{answers_always}
use Rattle.cps_eval.proofs.LevelsInOrder.{order_from_sort}
use Rattle.cps_eval.proofs.levels.sort_by_time.Goals as goal

pub returns-clause-order : goal.returns-clause-order
returns-clause-order c = order_from_sort _ (c.sort_unstable_by_key.ensures.sorted (λ e. e.time) (answers_always _ _ _ (λ f a r g h. search rules)))

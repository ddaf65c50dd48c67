-- What a sort by start and end ensures.
use Rattle.std.proofs.Common.{rules}
use Rattle.std.proofs.lemmas.List.Sorted.{answers_always}
use Rattle.cps_eval.proofs.Following.{in_turn_from_sort}
use Rattle.cps_eval.proofs.intervals.sort_runs.Goals as goal

pub returns-clause-order : goal.returns-clause-order
returns-clause-order c = in_turn_from_sort _ (c.sort_unstable_by_key.ensures.sorted (λ run. (run.start, run.end)) (answers_always _ _ _ (λ f a r g h. search rules)))

-- What a sort by state and label ensures.
use Rattle.std.proofs.Common.{rules}
use Rattle.std.proofs.lemmas.List.Sorted.{answers_always}
use Rattle.cps_eval.proofs.Stepping.{grouped_from_sort}
use Rattle.cps_eval.proofs.automata.sort_by_origin.Goals as goal

pub returns-clause-grouped : goal.returns-clause-grouped
returns-clause-grouped c = grouped_from_sort _ (c.sort_unstable_by_key.ensures.sorted (λ step. (step.tail, step.label)) (answers_always _ _ _ (λ f a r g h. search rules)))

-- What a sort by rank and place ensures.
use Rattle.std.proofs.Common.{rules}
use Rattle.std.proofs.lemmas.List.Sorted.{answers_always}
use Rattle.cps_clauses.proofs.SortedCandidates.{sorted_by_turn}
use Rattle.cps_clauses.proofs.forget.sort_by_turn.Goals as goal

pub returns : goal.returns
returns c = sorted_by_turn _ _ c.sort_unstable_by_key.ensures.permutation (c.sort_unstable_by_key.ensures.sorted (λ candidate. (candidate.rank, candidate.place)) (answers_always _ _ _ (λ f a r g h. search rules))) c.requires

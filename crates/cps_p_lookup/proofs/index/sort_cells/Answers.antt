-- What a sort by column and value ensures.
use Rattle.std.proofs.Common.{rules}
use Rattle.std.proofs.lemmas.List.Sorted.{answers_always}
use Rattle.cps_p_lookup.proofs.Cells.{grouped_from_sort}
use Rattle.cps_p_lookup.proofs.index.sort_cells.Goals as goal

pub returns-clause-grouped : goal.returns-clause-grouped
returns-clause-grouped c = grouped_from_sort _ (c.sort_unstable_by_key.ensures.sorted (λ cell. (cell.column, cell.value)) (answers_always _ _ _ (λ f a r g h. search rules)))

-- What sorting and dropping keeps.
use Rattle.std.proofs.lemmas.Cmp.{int_cmp_total, int_eq_equiv}
use Rattle.std.proofs.lemmas.List.Filters.{dedup_is}
use Rattle.std.proofs.lemmas.List.Kept.{Contains-dedup, Contains-from_dedup, IsStrictlySortedBy-dedup}
use Rattle.std.proofs.lemmas.List.Sorted.{Contains-permutation, IsPermutation-sym}
use Rattle.cps_p_circuit.proofs.SortedLists.{rising_from_strict, equal_by_cmp, equal_is}
use Rattle.cps_p_circuit.proofs.numbers.make_distinct.Goals as goal

pub returns : goal.returns
returns c =
    let is = dedup_is _ _ _ c.dedup.ensures.filtered in
    let moved = c.sort_unstable.ensures.permutation in
    record {
      rising = rw is (rising_from_strict _ (IsStrictlySortedBy-dedup int_cmp_total equal_by_cmp _ c.sort_unstable.ensures.sorted));
      kept = λ n h. rw is (Contains-dedup int_eq_equiv equal_is _ n (Contains-permutation _ _ n moved h));
      added_none = λ n h. Contains-permutation _ _ n (IsPermutation-sym _ _ moved) (Contains-from_dedup _ _ n (rw is at h));
    }

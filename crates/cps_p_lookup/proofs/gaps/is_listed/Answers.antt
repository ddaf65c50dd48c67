use Rattle.std.specs.List.Sorted.{IsBinarySearchResult}
use Rattle.std.specs.Ordering.{int_cmp}
use Rattle.std.proofs.Common.{ℤ, subst, FitsSigned, w64, to_z, of_z}
use Rattle.std.proofs.lemmas.Int.{to_z-of_z}
use Rattle.cps_p_lookup.proofs.Missing.{listed_by_search}
use Rattle.cps_p_lookup.proofs.gaps.is_listed.Goals as goal

pub returns : goal.returns
returns c =
    let ns = c.args.numbers.now in
    let n = c.args.number in
    let fits : FitsSigned w64 n = c.ranges.number in
    let found : IsBinarySearchResult (λ y. int_cmp y (to_z w64 (of_z w64 n))) ns c.binary_search.result = c.binary_search.ensures.position in
    listed_by_search ns n c.binary_search.result c.is_ok.result c.requires c.is_ok.ensures.value c.binary_search.ensures.bound
    (subst (λ (x : ℤ). IsBinarySearchResult (λ y. int_cmp y x) ns c.binary_search.result) (to_z-of_z w64 n fits) found)

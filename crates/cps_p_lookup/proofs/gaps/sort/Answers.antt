use Rattle.std.proofs.lemmas.List.Sorted.{Contains-permutation}
use Rattle.cps_p_lookup.proofs.gaps.sort.Goals as goal

pub returns : goal.returns
returns c = record { sorted = c.sort_unstable.ensures.sorted; kept = λ n h. Contains-permutation _ _ n c.sort_unstable.ensures.permutation h }

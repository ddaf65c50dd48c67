-- The atoms are copied, and a sort only moves them.
use Rattle.std.proofs.Common.{arith, length, sym, ◌∙◌, ap, subst}
use Rattle.std.specs.List.Sorted.{IsSortedBy}
use Rattle.cps_literal.specs.Normal.{comes_before}
use Rattle.cps_literal.proofs.Normalizing.{made_of, refill_all}
use Rattle.cps_literal.proofs.Ordering.{sorted_is}
use Rattle.cps_literal.proofs.normal.sorted_atoms.Goals as goal

pub returns-clause-permutation : goal.returns-clause-permutation
returns-clause-permutation c =
    let e = refill_all c.in_ok-sorted.sorted.items c.sort_unstable.new.self (length c.in_ok-sorted.sorted.items) (omega (arith, c.sort_unstable.ensures.len, ap length c.as_mut_slice.ensures.value)) in
    made_of c.args.atoms.now c.as_mut_slice.result.now c.sort_unstable.new.self _ (c.as_mut_slice.ensures.value ∙ c.in_ok-sorted.ensures.ok) c.sort_unstable.ensures.permutation e

pub returns-clause-sorted : goal.returns-clause-sorted
returns-clause-sorted c =
    let e = refill_all c.in_ok-sorted.sorted.items c.sort_unstable.new.self (length c.in_ok-sorted.sorted.items) (omega (arith, c.sort_unstable.ensures.len, ap length c.as_mut_slice.ensures.value)) in
    subst (λ xs. IsSortedBy comes_before xs) (sym e) (sorted_is c.sort_unstable.new.self c.sort_unstable.ensures.sorted)

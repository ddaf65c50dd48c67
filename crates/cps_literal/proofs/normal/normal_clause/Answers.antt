-- The sorted atoms are the given ones in another order, of which the normal form is one too.
use Rattle.std.proofs.Common.{arith, ◌≡◌, ℤ, List, length, ap, subst, sym}
use Rattle.std.proofs.lemmas.List.Sorted.{length_permutation}
use Rattle.std.proofs.lemmas.Result.{IfOk-weaker}
use Rattle.std.specs.List.Sorted.{IsSortedBy, IsPermutation}
use Rattle.cps_literal.specs.declared.atom.Atom.{Atom}
use Rattle.cps_literal.specs.Normal.{IsNormalOf, comes_before}
use Rattle.cps_literal.specs.Truth.{clause_holds}
use Rattle.cps_literal.proofs.Normalizing.{IsNormalOf-truth, normal_of_order}
use Rattle.cps_literal.proofs.normal.normal_clause.Goals as goal

pub normal_of_sorted-requires : goal.normal_of_sorted-requires
normal_of_sorted-requires c = subst (λ l. IsSortedBy comes_before l) (sym c.as_slice.ensures) c.in_ok-sorted.ensures.sorted

pub returns-clause-of_atoms : goal.returns-clause-of_atoms
returns-clause-of_atoms c =
    let p = subst (λ l. IsPermutation c.args.atoms.now l) (sym c.as_slice.ensures) c.in_ok-sorted.ensures.permutation in
    IfOk-weaker c.normal_of_sorted.result (IsNormalOf c.as_slice.result.now) (IsNormalOf c.args.atoms.now) (λ l h. normal_of_order c.args.atoms.now c.as_slice.result.now l p h) c.normal_of_sorted.ensures.of_atoms

pub returns-clause-truth : goal.returns-clause-truth
returns-clause-truth c = IfOk-weaker c.normal_of_sorted.result (IsNormalOf c.args.atoms.now) (λ l. (a : List ℤ) → clause_holds l a ≡ clause_holds c.args.atoms.now a) (λ l h a. IsNormalOf-truth c.args.atoms.now l a h) (returns-clause-of_atoms c)

pub returns-clause-normal : goal.returns-clause-normal
returns-clause-normal c = c.normal_of_sorted.ensures.normal

pub returns-clause-inline : goal.returns-clause-inline
returns-clause-inline c = λ l.
    let n = length_permutation c.args.atoms.now c.in_ok-sorted.sorted.items c.in_ok-sorted.ensures.permutation in
    c.normal_of_sorted.ensures.inline (omega (arith, l, n, ap (λ (xs : List Atom). length xs) c.as_slice.ensures))

-- Each atom comes before none of those kept, as the atoms are sorted.
use Rattle.std.proofs.Common.{arith, List, length, ap, sym, subst, true≢false, ◌≡◌}
use Rattle.cps_literal.specs.declared.atom.Atom.{Atom}
use Rattle.cps_literal.specs.Normal.{IsNormal, IsNormalOf}
use Rattle.cps_literal.proofs.Normalizing.{NormalSoFar, none, next_order, normal_more, normal_done, normal_none}
use Rattle.cps_literal.proofs.normal.normal_of_sorted.Goals as goal

pub loop-atom-init : goal.loop-atom-init
loop-atom-init c = record {
  so_far = subst (λ l. NormalSoFar c.args.atoms.now l 0) (sym c.new-kept.ensures.items) (normal_none c.args.atoms.now);
  len = omega (arith, ap (λ (xs : List Atom). length xs) c.new-kept.ensures.items);
  capacity = omega (arith, c.new-kept.ensures.capacity);
}

pub include-requires-clause-sorted : goal.include-requires-clause-sorted
include-requires-clause-sorted c = next_order c.args.atoms.now c.loop-atom.kept.items c.loop-atom.atom-index none c.loop-atom-test.true c.requires c.loop-atom.invariant.so_far

pub returns-in_err-include-clause-inline : goal.returns-in_err-include-clause-inline
returns-in_err-include-clause-inline c = λ l. absurd (true≢false (sym (c.in_err-include.ensures.succeeds (omega (arith, l, c.loop-atom-test.true, c.loop-atom.invariant.len, c.loop-atom.invariant.capacity)))))

pub loop-atom-preserved : goal.loop-atom-preserved
loop-atom-preserved c = record {
  so_far = normal_more c.args.atoms.now c.loop-atom.kept.items c.include.new.kept.items c.loop-atom.atom-index none c.loop-atom-test.true c.loop-atom.invariant.so_far c.in_ok-include.ensures.includes;
  len = omega (arith, c.in_ok-include.ensures.len);
  capacity = omega (arith, c.in_ok-include.ensures.capacity);
}

pub returns-clause-of_atoms : goal.returns-clause-of_atoms
returns-clause-of_atoms c =
    let n : c.loop-atom.atom-index ≡ length c.args.atoms.now = omega (arith, c.loop-atom-test.false, c.loop-atom.auto.atom-index-end) in
    subst (λ l. IsNormalOf c.args.atoms.now l) (sym c.of.ensures) (normal_done c.args.atoms.now c.loop-atom.kept.items c.loop-atom.atom-index n c.loop-atom.invariant.so_far)

pub returns-clause-normal : goal.returns-clause-normal
returns-clause-normal c = subst (λ l. IsNormal l) (sym c.of.ensures) c.loop-atom.invariant.so_far.normal

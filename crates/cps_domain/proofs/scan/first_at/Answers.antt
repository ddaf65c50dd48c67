-- An interval that ends before the number comes before the first that does not.
use Rattle.std.proofs.Common.{arith, rules, ◌+◌, ◌-◌, ◌/◌, ◌≡◌, ◌<ℤ◌, sym, subst, w64, FitsSigned}
use Rattle.std.proofs.lemmas.Int.{to_z-of_z}
use Rattle.cps_domain.specs.Window.{interval_at}
use Rattle.cps_domain.proofs.Taking.{bits, is_lt}
use Rattle.cps_domain.proofs.scan.first_at.Goals as goal

pub loop-start-preserved-then-list-middle : goal.loop-start-preserved-then-list-middle
loop-start-preserved-then-list-middle c =
    let inv = c.loop-start.invariant in
    let xs = c.args.list.now in
    let k = c.loop-start.start + (c.loop-start.first - c.loop-start.start) / 2 in
    let f : FitsSigned w64 (interval_at c.args.list.now k).1 = search rules in
    let ends = subst (λ z. z <ℤ bits c.args.value) (to_z-of_z w64 (interval_at xs k).1 f) (is_lt (bits (interval_at xs k).1) (bits c.args.value) c.if-list-middle.true) in
    let same : (k + 1) - 1 ≡ k = omega arith in
    record {
      low = omega (arith, inv.low);
      some = omega (arith, c.loop-start-test.true);
      high = inv.high;
      reached = inv.reached;
      before = λ l. subst (λ j. (interval_at c.args.list.now j).1 <ℤ bits c.args.value) (sym same) ends;
    }

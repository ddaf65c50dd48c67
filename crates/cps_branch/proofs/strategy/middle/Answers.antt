-- Half of the way from the least value to the greatest.
use Rattle.std.proofs.Common.{rules, ◌∙◌, ℤ, ℕ, pos, ◌+ℤ◌, sym, ap, subst, arith, FitsSigned, w64}
use Rattle.std.proofs.lemmas.Int.{to_z-of_z, ints}
use Rattle.cps_domain.specs.Division.{IsFloor}
use Rattle.cps_branch.proofs.SelectedAtoms.{apart, floor_half, half_high}
use Rattle.cps_branch.proofs.strategy.middle.Goals as goal

pub half_way-requires-clause-order : goal.half_way-requires-clause-order
half_way-requires-clause-order c =
    let far = apart c.args.store.now c.args.subject c.least-low.result c.greatest.result c.least-low.ensures.least c.greatest.ensures.greatest c.requires.open_now in
    omega (arith, ints)

pub raised-requires-clause-room : goal.raised-requires-clause-room
raised-requires-clause-room c =
    let far = apart c.args.store.now c.args.subject c.least-low.result c.greatest.result c.least-low.ensures.least c.greatest.ensures.greatest c.requires.open_now in
    let half = c.half_way.ensures in
    let high = c.greatest.ensures.high in
    omega (arith, ints)

pub returns-clause-middle : goal.returns-clause-middle
returns-clause-middle c =
    let low = c.least-low.result in
    let high = c.greatest.result in
    let fl : FitsSigned w64 low = search rules in
    let fh : FitsSigned w64 high = search rules in
    let fm : FitsSigned w64 c.raised.result = search rules in
    let far = apart c.args.store.now c.args.subject low high c.least-low.ensures.least c.greatest.ensures.greatest c.requires.open_now in
    let half = simp to_z-of_z at c.half_way.ensures in
    let sum = simp to_z-of_z at c.raised.ensures in
    record {
      low = low;
      high = high;
      is_low = c.least-low.ensures.least;
      is_high = c.greatest.ensures.greatest;
      floor = subst (λ (m : ℤ). IsFloor (low +ℤ high) (pos 2) m) (sym (to_z-of_z w64 c.raised.result fm ∙ sum ∙ ap (λ (n : ℕ). low +ℤ pos n) half)) (floor_half low high (omega (arith, ints)));
    }

pub returns-clause-high : goal.returns-clause-high
returns-clause-high c =
    let far = apart c.args.store.now c.args.subject c.least-low.result c.greatest.result c.least-low.ensures.least c.greatest.ensures.greatest c.requires.open_now in
    let half = c.half_way.ensures in
    let sum = c.raised.ensures in
    let high = c.greatest.ensures.high in
    let below = half_high c.least-low.result c.greatest.result far in
    omega (arith, ints)

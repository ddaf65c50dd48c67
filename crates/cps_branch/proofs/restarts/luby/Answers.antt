use Rattle.std.proofs.Common.{◌/◌, sym, subst, arith}
use Rattle.cps_branch.proofs.LubyNumbers.{IsPlaceOf, place_first, place_high, place_low, place_last}
use Rattle.cps_branch.proofs.restarts.luby.Goals as goal
use Rattle.cps_branch.proofs.restarts.luby.Goals.{then-power-place, else-power-place}

pub loop-place-init : goal.loop-place-init
loop-place-init c = record { place = place_first c.args.member c.requires.some c.requires.few; few = omega arith }

pub loop-place-preserved : goal.loop-place-preserved
loop-place-preserved c =
    let place = c.loop-place.place in
    let power = c.loop-place.power in
    let at = c.loop-place.invariant.place in
    record {
      place = elim c.if-power-place.branch [
        | then-power-place w ↦ subst (λ p. IsPlaceOf c.args.member p (c.loop-place.power / 2)) (sym w.place-is) (place_high c.args.member place power at (omega (arith, c.loop-place-test.true)) w.if-power-place.true)
        | else-power-place w ↦ subst (λ p. IsPlaceOf c.args.member p (c.loop-place.power / 2)) (sym w.place-is) (place_low c.args.member place power at (omega (arith, c.loop-place-test.true)) w.if-power-place.false)
      ];
      few = omega (arith, c.loop-place.invariant.few);
    }

pub returns-clause-is : goal.returns-clause-is
returns-clause-is c = place_last c.args.member c.loop-place.place c.loop-place.power c.loop-place.invariant.place (omega (arith, c.loop-place-test.false))

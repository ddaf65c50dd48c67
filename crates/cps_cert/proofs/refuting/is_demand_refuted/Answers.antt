-- What the kind says of its sum and its literals.
use Rattle.cps_rup.specs.Domains.{box_in}
use Rattle.cps_cert.proofs.Demands.{linear_small, exactly_refuted}
use Rattle.cps_cert.proofs.refuting.is_demand_refuted.Goals as goal

pub is_sum_outside-requires : goal.is_sum_outside-requires
is_sum_outside-requires c = rw (c.as_slice.ensures, c.as_slice-in-Linear.ensures) (linear_small _ _ _ _ _ _ c.in-Linear.is c.requires.sums)

pub returns-in-ExactlyOne : goal.returns-in-ExactlyOne
returns-in-ExactlyOne c =
    let said = rw c.as_slice-in-ExactlyOne.ensures at c.is_not_one.ensures in
    exactly_refuted (box_in c.args.domains.now) _ _ _ c.in-ExactlyOne.is said

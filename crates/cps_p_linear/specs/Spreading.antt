-- What the terms of a sum can be together.
use Rattle.std.specs.Prelude.{List}
use Rattle.std.specs.List.{AllZip}
use Rattle.cps_instance.specs.declared.term.Term.{Term}
use Rattle.cps_trail.specs.Trail.{Trail}
use Rattle.cps_p_linear.specs.declared.ends.Ends.{Ends}
use Rattle.cps_p_linear.specs.declared.ends.Spread.{Spread}
use Rattle.cps_p_linear.specs.Ends.{AreTightEnds, AreSumEnds, IsNoWider}

-- the ends of the sum, by the ends that the values of each subject reach, and a width that no term goes beyond
pub record IsSpread (s : Trail) (ts : List Term) (whole : Spread) : Type 0 where
  pub values : List Ends
  pub hulls : AreTightEnds s ts values
  pub ends : AreSumEnds ts values whole.sum
  pub widths : AllZip (IsNoWider whole.widest) ts values

-- the ends of the sum, by the ends that the values of each subject reach
pub record IsSumNow (s : Trail) (ts : List Term) (sum : Ends) : Type 0 where
  pub values : List Ends
  pub hulls : AreTightEnds s ts values
  pub ends : AreSumEnds ts values sum

-- What a store leaves where all that a look found is true already.
use Rattle.std.specs.Prelude.{List, All}
use Rattle.cps_trail.specs.Trail.{Trail, IsTrueNow}
use Rattle.cps_rule.specs.declared.rule.Narrowing.{Narrowing}

abbrev pub AreTrue : Trail → List Narrowing → Type 0
AreTrue s ns = All (λ n. IsTrueNow s n.target) ns

-- where all narrowings of a list are true, so were those before, and this holds
pub record LeavesAtRest (s : Trail) (P : Type 0) (old new : List Narrowing) : Type 0 where
  pub before : AreTrue s new → AreTrue s old
  pub left : AreTrue s new → P

-- One answer is not another.
use Rattle.std.specs.Prelude.{Result, Ok}
use Rattle.std.proofs.Common.{◌≡◌, Bool, true, false}
use Rattle.cps_rule.specs.declared.rule.Hint.{Hint}
use Rattle.cps_rule.specs.declared.rule.Look.{Look}
use Rattle.cps_rule.specs.declared.rule.Look.TheVariants.{Possible, Impossible}

pub no_not_yes : {E : Type 0} (P : Type 0) → ◌≡◌ {A = Result Bool E} (Ok false) (Ok true) → P
no_not_yes P h = absurd (cc h)

pub impossible_not_possible : {E : Type 0} (P : Type 0) (hint : Hint) → ◌≡◌ {A = Result Look E} (Ok (Impossible hint)) (Ok Possible) → P
impossible_not_possible P hint h = absurd (cc h)

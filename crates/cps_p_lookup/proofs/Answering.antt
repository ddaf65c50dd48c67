-- One answer is not another.
use Rattle.std.specs.Prelude.{Result, Ok, Option, Some, None}
use Rattle.std.proofs.Common.{◌≡◌, Bool, true, false}

pub no_not_yes : {E : Type 0} (P : Type 0) → ◌≡◌ {A = Result Bool E} (Ok false) (Ok true) → P
no_not_yes P h = absurd (cc h)

pub none_not_some : {A E : Type 0} (P : Type 0) (x : A) → ◌≡◌ {A = Result (Option A) E} (Ok None) (Ok (Some x)) → P
none_not_some P x h = absurd (cc h)

pub some_is : {A E : Type 0} (x y : A) → ◌≡◌ {A = Result (Option A) E} (Ok (Some x)) (Ok (Some y)) → x ≡ y
some_is x y h = cc

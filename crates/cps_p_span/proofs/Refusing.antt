-- A call that answers false promises nothing, and what is there is not lacking.
use Rattle.std.specs.declared.result.Result.{Result}
use Rattle.std.specs.Prelude.{OnOk}
use Rattle.std.proofs.Common.{subst, ◌≡◌, Ok, Bool, true, false, Option, Some, None}

pub refused : {E P : Type 0} → ◌≡◌ {A = Result Bool E} (Ok false) (Ok true) → P
refused e = cc

-- what holds of a call that went well
pub on_ok_of : {A E P : Type 0} (r : Result A E) (x : A) → r ≡ Ok x → OnOk r P → P
on_ok_of {P = P} r x e h = subst (λ (q : Result _ _). OnOk q P) e h

pub not_lacking : {A P : Type 0} (x : A) → ◌≡◌ {A = Option A} (Some x) None → P
not_lacking x e = absurd (cc e)

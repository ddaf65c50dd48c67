-- What is asked of one kind of answer is not asked of another.
use Rattle.std.specs.Prelude.{Result, Ok, Err, IsErr, OnErr, is_err}
use Rattle.std.proofs.Common.{◌≡◌, ◌∙◌, Bool, true, false, refl, sym, ap, true≢false}
use Rattle.cps_search.specs.declared.settle.Conflict.{Conflict as ConflictOf}
use Rattle.cps_search.specs.declared.settle.Inference.{Inference}
use Rattle.cps_search.specs.declared.settle.Inference.TheVariants.{Settled, Conflict}

-- a failure is no success
pub err_not_ok : {A E : Type 0} (P : Type 0) (r : Result A E) (e : E) (x : A) → r ≡ Err e → r ≡ Ok x → P
err_not_ok P r e x failed h = absurd (cc (sym failed ∙ h))

-- and it is one
pub is_failure : {A E : Type 0} (r : Result A E) (e : E) → r ≡ Err e → IsErr r
is_failure r e failed = rw failed refl

-- a success is none
pub ok_no_failure : {A E : Type 0} (P : Type 0) (r : Result A E) (x : A) → r ≡ Ok x → IsErr r → P
ok_no_failure {A} {E} P r x is failed = absurd (true≢false (sym failed ∙ ap (λ (s : Result A E). is_err s) is))

-- what is so at any rate is so of each failure
pub err_if : {A E : Type 0} (r : Result A E) (P : Type 0) → P → OnErr r P
err_if (Ok y) P h = tt
err_if (Err e) P h = h

-- a conflict is no rest
pub conflict_not_settled : {E : Type 0} (P : Type 0) (conflict : ConflictOf) → ◌≡◌ {A = Result Inference E} (Ok (Conflict conflict)) (Ok Settled) → P
conflict_not_settled P conflict h = absurd (cc h)

-- yes is not no
pub yes_not_no : {E : Type 0} (P : Type 0) → ◌≡◌ {A = Result Bool E} (Ok true) (Ok false) → P
yes_not_no P h = absurd (cc h)

pub no_not_yes : {E : Type 0} (P : Type 0) → ◌≡◌ {A = Result Bool E} (Ok false) (Ok true) → P
no_not_yes P h = absurd (cc h)

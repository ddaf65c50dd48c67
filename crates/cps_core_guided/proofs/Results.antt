-- What is known of a call's success.
use Rattle.std.specs.Prelude.{IfOk, IfSome, IsTrue, OnOk, Option, Some, None, Result, Ok, Err}
use Rattle.std.proofs.Common.{◌≡◌, Bool, true, false, true≢false, inl, inr, refl, sym}
use Rattle.cps_trail.proofs.Falls.{bool_cases}

-- a fact of the result and one that comes with it give a third
pub if_ok_both : {A E : Type 0} (r : Result A E) (P : A → Type 0) (Q : Type 0) (R : A → Type 0) → ((x : A) → P x → Q → R x) → IfOk r P → OnOk r Q → IfOk r R
if_ok_both (Ok x) P Q R f p q = f x p q
if_ok_both (Err e) P Q R f p q = tt

-- what is so of each value that a result has
pub if_ok_of : {A E : Type 0} (r : Result A E) (P : A → Type 0) → ((x : A) → r ≡ Ok x → P x) → IfOk r P
if_ok_of (Ok x) P f = f x refl
if_ok_of (Err e) P f = tt

-- what a fact on each success gives
pub on_ok_weaker : {A E : Type 0} (r : Result A E) (P Q : Type 0) → (P → Q) → OnOk r P → OnOk r Q
on_ok_weaker (Ok x) P Q f p = f p
on_ok_weaker (Err e) P Q f p = tt

-- what two facts on each success give
pub on_ok_both : {A E : Type 0} (r : Result A E) (P Q R : Type 0) → (P → Q → R) → OnOk r P → OnOk r Q → OnOk r R
on_ok_both (Ok x) P Q R f p q = f p q
on_ok_both (Err e) P Q R f p q = tt

-- what is so at any rate comes with what is so of an answer
pub if_some_more : {A : Type 0} (r : Option A) (P : Type 0) (Q : A → Type 0) → P → IfSome r Q → IfSome r (λ x. P × Q x)
if_some_more (Some x) P Q p q = (p, q)
if_some_more None P Q p q = tt

-- what answered was not refused before
pub not-refused : (b : Bool) → (IsTrue b → false ≡ true) → b ≡ false
not-refused b h = elim (bool_cases b) [
  | inl on ↦ absurd (true≢false (sym (h on)))
  | inr off ↦ off
]

-- The only member that reaches a target.
use Rattle.std.proofs.Common.{ℕ, ◌+◌, ◌<◌, ◌≤◌, ◌≤ℤ◌, ◌<ℤ◌, Option, Some, None, List, length, get_or, ◌≡◌, ◌≢◌, inl, inr, ap, subst, sym, ◌∙◌, arith}
use Rattle.std.proofs.lemmas.Int.{ints}
use Rattle.cps_p_arith.specs.declared.ends.Ends.{Ends}
use Rattle.cps_p_arith.specs.Maxima.{IsAlone, IsOnlyReaching}
use Rattle.cps_p_arith.proofs.Resting.{equal_or, any_default}

abbrev pub Reaches : Ends → List Ends → ℕ → Type 0
Reaches t es k = (d : Ends) → t.low ≤ℤ (get_or es k d).high

-- what is known after some of the members
abbrev pub IsReachingAmong : Ends → List Ends → ℕ → Option ℕ → Type 0
IsReachingAmong t es k None = (j : ℕ) (d : Ends) → j < k → j < length es → (get_or es j d).high <ℤ t.low
IsReachingAmong t es k (Some p) = (p < k) × (p < length es) × Reaches t es p

pub none_yet : (t : Ends) (es : List Ends) → IsReachingAmong t es 0 None
none_yet t es j d l m = absurd (omega arith)

pub passes_by : (t : Ends) (es : List Ends) (k : ℕ) (e : Ends) (only : Option ℕ) → k < length es → (get_or es k e).high <ℤ t.low → IsReachingAmong t es k only → IsReachingAmong t es (k + 1) only
passes_by t es k e None l short h = λ j d m n. elim (equal_or j k) [
  | inl same ↦ (
      let at : get_or es j d ≡ get_or es k e = ap (λ i. get_or es i d) same ∙ any_default es k d e l in
      subst (λ a. a.high <ℤ t.low) (sym at) short)
  | inr differ ↦ h j d (omega arith) n
]
passes_by t es k e (Some p) l short h = (let m = h.0 in omega arith, h.1, h.2)

reaches_at : (t : Ends) (es : List Ends) (k : ℕ) (e : Ends) → k < length es → t.low ≤ℤ (get_or es k e).high → Reaches t es k
reaches_at t es k e l reached d = subst (λ a. t.low ≤ℤ a.high) (any_default es k e d l) reached

pub first_one : (t : Ends) (es : List Ends) (k : ℕ) (e : Ends) → k < length es → t.low ≤ℤ (get_or es k e).high → IsReachingAmong t es (k + 1) (Some k)
first_one t es k e l reached = (omega arith, l, reaches_at t es k e l reached)

not_alone : (t : Ends) (es : List Ends) (k p : ℕ) → IsAlone t es k → p < length es → Reaches t es p → p ≢ k → ⊥
not_alone t es k p alone l reaches differ =
    let short = alone p t l differ in
    let over = reaches t in
    omega (arith, ints)

pub second_one : (t : Ends) (es : List Ends) (k : ℕ) (e : Ends) (p : ℕ) → k < length es → t.low ≤ℤ (get_or es k e).high → IsReachingAmong t es k (Some p) → IsOnlyReaching t es None
second_one t es k e p l reached h = λ q m reaches alone. elim (equal_or p q) [
  | inl same ↦ absurd (not_alone t es q k alone l (reaches_at t es k e l reached) (λ other. (let n = h.0 in omega arith)))
  | inr differ ↦ absurd (not_alone t es q p alone h.1 h.2 differ)
]

pub only_one : (t : Ends) (es : List Ends) (k : ℕ) (only : Option ℕ) → length es ≤ k → IsReachingAmong t es k only → IsOnlyReaching t es only
only_one t es k None past h = λ q m reaches alone. (let short = h q t (omega arith) m in let over = reaches t in absurd (omega (arith, ints)))
only_one t es k (Some p) past h = λ q m reaches alone. elim (equal_or p q) [
  | inl same ↦ ap Some same
  | inr differ ↦ absurd (not_alone t es q p alone h.1 h.2 differ)
]

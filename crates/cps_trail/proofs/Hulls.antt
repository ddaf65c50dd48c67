-- What the two ends of a set of values say of a comparison.
use Rattle.std.proofs.Common.{ℕ, ℤ, ◌≤ℤ◌, ◌<ℤ◌, ◌≡◌, ◌↔◌, ◌⊎◌, inl, inr, Bool, true, false, to_z, of_z, w64, FitsSigned, sym, ◌∙◌, ap, subst, refl, true≢false, arith}
use Rattle.std.specs.Prelude.{not, int_le, int_lt, nat_eq}
use Rattle.std.proofs.lemmas.Int.{ints, to_z-of_z}
use Rattle.cps_domain.specs.Window.{equals}
use Rattle.cps_domain.proofs.Tests.{le_true, le_false, true_le, false_le, equals_yes, equals_no}
use Rattle.cps_literal.specs.declared.atom.Op.{Op}
use Rattle.cps_literal.specs.declared.atom.Op.TheVariants.{Le, Ge, Eq, Ne}
use Rattle.cps_literal.specs.Truth.{IsTrueOn, IsFalseOn}
use Rattle.cps_trail.specs.Trail.{IsSingled}
use Rattle.cps_trail.specs.Changes.{IsHull}

-- tests on whole numbers, and what no test is
same_of : (x v : ℤ) → equals x v ≡ true → x ≡ v
same_of x v e = grind (arith, ints)

equals_same : (x v : ℤ) → x ≡ v → equals x v ≡ true
equals_same x v e = subst (λ (y : ℤ). equals x y ≡ true) e (equals_yes x)

lt_true : (x v : ℤ) → x <ℤ v → int_lt x v ≡ true
lt_true x v h = grind (arith, ints)

true_lt : (x v : ℤ) → int_lt x v ≡ true → x <ℤ v
true_lt x v h = grind (arith, ints)

not_true : (b : Bool) → not b ≡ true → b ≡ false
not_true true e = sym e
not_true false e = refl

not_false : (b : Bool) → not b ≡ false → b ≡ true
not_false true e = refl
not_false false e = sym e

false_unless : (b : Bool) → (b ≡ true → ⊥) → b ≡ false
false_unless true f = absurd (f refl)
false_unless false f = refl

apart : (p : ℤ → Bool) (x v : ℤ) → p x ≡ true → p v ≡ false → x ≡ v → ⊥
apart p x v a b e = true≢false (sym a ∙ ap p e ∙ b)

-- two facts that say as much as a third say as much as each other
pub iff : {A B C : Type 0} → A ↔ B → B ↔ C → A ↔ C
iff f g = (λ a. g.0 (f.0 a), λ c. f.1 (g.1 c))

-- numbers are the same where their registers are
eq_true : (m n : ℕ) → m ≡ n → nat_eq m n ≡ true
eq_true m n h = grind arith

true_eq : (m n : ℕ) → nat_eq m n ≡ true → m ≡ n
true_eq m n h = grind arith

pub same_register : (a b : ℤ) → FitsSigned w64 a → FitsSigned w64 b → of_z w64 a ≡ of_z w64 b → a ≡ b
same_register a b f g e = sym (to_z-of_z w64 a f) ∙ ap (to_z w64) e ∙ to_z-of_z w64 b g

pub registers : (a b : ℤ) → FitsSigned w64 a → FitsSigned w64 b → (nat_eq (of_z w64 a) (of_z w64 b) ≡ true) ↔ (a ≡ b)
registers a b f g = (λ t. same_register a b f g (true_eq (of_z w64 a) (of_z w64 b) t), λ e. eq_true (of_z w64 a) (of_z w64 b) (ap (of_z w64) e))

-- a value is there and the ends are one number
pub had_alone : (test had : Bool) (a b : ℤ) → FitsSigned w64 a → FitsSigned w64 b → ((had ≡ true) × (test ≡ nat_eq (of_z w64 a) (of_z w64 b))) ⊎ ((had ≡ false) × (test ≡ false)) → (test ≡ true) ↔ ((had ≡ true) × (a ≡ b))
had_alone test had a b f g (inl w) = (λ t. (w.0, (registers a b f g).0 (sym w.1 ∙ t)), λ e. w.1 ∙ (registers a b f g).1 e.1)
had_alone test had a b f g (inr w) = (λ t. absurd (true≢false (sym t ∙ w.1)), λ e. absurd (true≢false (sym e.0 ∙ w.0)))

module _ (p : ℤ → Bool) (ends : ℤ × ℤ) (v : ℤ) (h : IsHull p ends) where
  -- each value is up to the number, or none is
  le_all : (ends.1 ≤ℤ v) ↔ IsTrueOn p Le v
  le_all = (λ l x a. le_true x v (let g = h.greatest x a in omega (arith, ints)), λ t. true_le ends.1 v (t ends.1 h.high))

  le_none : (v <ℤ ends.0) ↔ IsFalseOn p Le v
  le_none = (λ l x a. le_false x v (let g = h.least x a in omega (arith, ints)), λ f. false_le ends.0 v (f ends.0 h.low))

  ge_all : (v ≤ℤ ends.0) ↔ IsTrueOn p Ge v
  ge_all = (λ l x a. le_true v x (let g = h.least x a in omega (arith, ints)), λ t. true_le v ends.0 (t ends.0 h.low))

  ge_none : (ends.1 <ℤ v) ↔ IsFalseOn p Ge v
  ge_none = (λ l x a. le_false v x (let g = h.greatest x a in omega (arith, ints)), λ f. false_le v ends.1 (f ends.1 h.high))

  -- a set whose ends are one number has no other
  only : ends.0 ≡ v → ends.1 ≡ v → (x : ℤ) → p x ≡ true → x ≡ v
  only a b x i = let g = h.least x i in let k = h.greatest x i in omega (arith, ints)

  low_is : p v ≡ true → ends.0 ≡ ends.1 → ends.0 ≡ v
  low_is i e = let g = h.least v i in let k = h.greatest v i in omega (arith, ints)

  -- each value is the number, or none is
  eq_all : ((p v ≡ true) × (ends.0 ≡ ends.1)) ↔ IsTrueOn p Eq v
  eq_all = (
    λ e x a. (let l = low_is e.0 e.1 in equals_same x v (only l (sym e.1 ∙ l) x a)),
    λ t. (let l = same_of ends.0 v (t ends.0 h.low) in let g = same_of ends.1 v (t ends.1 h.high) in (ap p (sym l) ∙ h.low, l ∙ sym g)),
  )

  eq_none : (p v ≡ false) ↔ IsFalseOn p Eq v
  eq_none = (λ n x a. equals_no x v (apart p x v a n), λ f. false_unless (p v) (λ i. true≢false (sym (equals_yes v) ∙ f v i)))

  ne_all : (p v ≡ false) ↔ IsTrueOn p Ne v
  ne_all = (λ n x a. ap not (equals_no x v (apart p x v a n)), λ t. false_unless (p v) (λ i. true≢false (sym (equals_yes v) ∙ not_true (equals v v) (t v i))))

  ne_ends : ((ends.0 ≡ v) × (ends.1 ≡ v)) ↔ IsFalseOn p Ne v
  ne_ends = (
    λ e x a. ap not (equals_same x v (only e.0 e.1 x a)),
    λ f. (same_of ends.0 v (not_false (equals ends.0 v) (f ends.0 h.low)), same_of ends.1 v (not_false (equals ends.1 v) (f ends.1 h.high))),
  )

  ne_none : ((p v ≡ true) × (ends.0 ≡ ends.1)) ↔ IsFalseOn p Ne v
  ne_none = (λ e. (let l = low_is e.0 e.1 in ne_ends.0 (l, sym e.1 ∙ l)), λ f. (let w = ne_ends.1 f in (ap p (sym w.0) ∙ h.low, w.0 ∙ sym w.1)))

  -- the same by the atom's comparison
  module _ (op : Op) where
    pub le_yes : op ≡ Le → (int_le ends.1 v ≡ true) ↔ IsTrueOn p op v
    le_yes e = subst (λ o. (int_le ends.1 v ≡ true) ↔ IsTrueOn p o v) (sym e) (λ t. le_all.0 (true_le ends.1 v t), λ t. le_true ends.1 v (le_all.1 t))

    pub le_no : op ≡ Le → (int_lt v ends.0 ≡ true) ↔ IsFalseOn p op v
    le_no e = subst (λ o. (int_lt v ends.0 ≡ true) ↔ IsFalseOn p o v) (sym e) (λ t. le_none.0 (true_lt v ends.0 t), λ f. lt_true v ends.0 (le_none.1 f))

    pub ge_yes : op ≡ Ge → (int_le v ends.0 ≡ true) ↔ IsTrueOn p op v
    ge_yes e = subst (λ o. (int_le v ends.0 ≡ true) ↔ IsTrueOn p o v) (sym e) (λ t. ge_all.0 (true_le v ends.0 t), λ t. le_true v ends.0 (ge_all.1 t))

    pub ge_no : op ≡ Ge → (int_lt ends.1 v ≡ true) ↔ IsFalseOn p op v
    ge_no e = subst (λ o. (int_lt ends.1 v ≡ true) ↔ IsFalseOn p o v) (sym e) (λ t. ge_none.0 (true_lt ends.1 v t), λ f. lt_true ends.1 v (ge_none.1 f))

    pub ne_only : op ≡ Ne → ((ends.0 ≡ v) × (ends.1 ≡ v)) ↔ IsFalseOn p op v
    ne_only e = subst (λ o. ((ends.0 ≡ v) × (ends.1 ≡ v)) ↔ IsFalseOn p o v) (sym e) ne_ends

    -- by whether the number itself is among the values
    module _ (had : Bool) (is : IsSingled op → had ≡ p v) where
      pub eq_yes : op ≡ Eq → ((had ≡ true) × (ends.0 ≡ ends.1)) ↔ IsTrueOn p op v
      eq_yes e =
          let q : had ≡ p v = is (subst (λ o. IsSingled o) (sym e) tt) in
          subst (λ o. ((had ≡ true) × (ends.0 ≡ ends.1)) ↔ IsTrueOn p o v) (sym e) (subst (λ b. ((b ≡ true) × (ends.0 ≡ ends.1)) ↔ IsTrueOn p Eq v) (sym q) eq_all)

      pub eq_no : op ≡ Eq → (not had ≡ true) ↔ IsFalseOn p op v
      eq_no e =
          let q : had ≡ p v = is (subst (λ o. IsSingled o) (sym e) tt) in
          subst (λ o. (not had ≡ true) ↔ IsFalseOn p o v) (sym e) (λ t. eq_none.0 (sym q ∙ not_true had t), λ f. ap not (q ∙ eq_none.1 f))

      pub ne_yes : op ≡ Ne → (not had ≡ true) ↔ IsTrueOn p op v
      ne_yes e =
          let q : had ≡ p v = is (subst (λ o. IsSingled o) (sym e) tt) in
          subst (λ o. (not had ≡ true) ↔ IsTrueOn p o v) (sym e) (λ t. ne_all.0 (sym q ∙ not_true had t), λ f. ap not (q ∙ ne_all.1 f))

      pub ne_no : op ≡ Ne → ((had ≡ true) × (ends.0 ≡ ends.1)) ↔ IsFalseOn p op v
      ne_no e =
          let q : had ≡ p v = is (subst (λ o. IsSingled o) (sym e) tt) in
          subst (λ o. ((had ≡ true) × (ends.0 ≡ ends.1)) ↔ IsFalseOn p o v) (sym e) (subst (λ b. ((b ≡ true) × (ends.0 ≡ ends.1)) ↔ IsFalseOn p Ne v) (sym q) ne_none)

-- Which variables are free, found along the list of them.
use Rattle.std.specs.Prelude.{nat_eq}
use Rattle.std.proofs.Common.{ℕ, ◌+◌, ◌≤◌, ◌<◌, ℤ, ◌≡◌, ◌∙◌, ◌⊎◌, inl, inr, Bool, true, false, cond, List, [], ◌∷◌, ◌++◌, length, get_or, drop, drop-cons, add-one, refl, sym, ap, subst, arith, append_assoc, eq-eqb}
use Rattle.std.proofs.lemmas.Bool.{eqb-true}
use Rattle.std.proofs.lemmas.List.Folds.{list_any_at, list_any_none}
use Rattle.std.proofs.lemmas.List.Elements.{All-from_get_or}
use Rattle.std.proofs.lemmas.Grind.{common_steps}
use Rattle.cps_literal.specs.declared.atom.Atom.{Atom}
use Rattle.cps_neighbourhood.specs.Drawing.{AscendsStrictly}
use Rattle.cps_neighbourhood.specs.Rounds.{fixed_from, has_value, is_on}

not_equal : (a b : ℕ) → (a ≡ b → ⊥) → nat_eq a b ≡ false
not_equal a b ne = by_test (nat_eq a b) refl
  where
    by_test : (t : Bool) → nat_eq a b ≡ t → t ≡ false
    by_test true e = absurd (ne (eqb-true a b e))
    by_test false e = refl

module _ (free : List ℕ) (place v : ℕ) (rising : AscendsStrictly free) (before : (k : ℕ) → k < place → k < length free → get_or free k 0 < v) (after : (k : ℕ) → place ≤ k → k < length free → v ≤ get_or free k 0) where
  off : (place < length free → get_or free place 0 ≡ v → ⊥) → is_on free v ≡ false
  off other = list_any_none (λ x. nat_eq x v) free (All-from_get_or (λ x. nat_eq x v ≡ false) free 0 (λ k l. not_equal (get_or free k 0) v (at k l)))
    where
      cases : (k : ℕ) → (k < place) ⊎ ((k ≡ place) ⊎ (place < k))
      cases k = grind arith

      at : (k : ℕ) → k < length free → get_or free k 0 ≡ v → ⊥
      at k l e = elim (cases k) [
        | inl less ↦ (let h = before k less l in omega (arith, h, e))
        | inr more ↦ elim more [
          | inl same ↦ other (subst (λ (n : ℕ). n < length free) same l) (subst (λ (n : ℕ). get_or free n 0 ≡ v) same e)
          | inr later ↦ (let within : place < length free = omega (arith, later, l) in let low = after place (omega arith) within in let up = rising place k later l in other within (omega (arith, low, up, e)))
        ]
      ]

  pub is_here : place < length free → nat_eq (get_or free place 0) v ≡ is_on free v
  is_here l = by_test (nat_eq (get_or free place 0) v) refl
    where
      by_test : (t : Bool) → nat_eq (get_or free place 0) v ≡ t → t ≡ is_on free v
      by_test true e = sym (list_any_at (λ x. nat_eq x v) free place 0 l e)
      by_test false e = sym (off (λ _ same. clash e (eq-eqb (get_or free place 0) v same)))
        where
          clash : {t : Bool} → t ≡ false → t ≡ true → ⊥
          clash e f = absurd (cc)

  pub is_past : length free ≤ place → is_on free v ≡ false
  is_past l = off (λ within _. omega (arith, l, within))

-- a step along the values: the variable is free, or its value is decided
pub step_free : (decisions all : List Atom) (values : List ℤ) (free : List ℕ) (i : ℕ) (d : ℤ) → i < length values → true ≡ is_on free i → decisions ++ fixed_from i (drop i values) free ≡ all → decisions ++ fixed_from (i + 1) (drop (i + 1) values) free ≡ all
step_free decisions all values free i d l on is =
    let x = get_or values i d in
    let split : drop i values ≡ x ∷ drop (i + 1) values = drop-cons values i d l ∙ ap (λ (n : ℕ). x ∷ drop n values) (sym (add-one i)) in
    ap (λ (ts : List Atom). decisions ++ ts) (sym (ap (λ (b : Bool). cond b (fixed_from (i + 1) (drop (i + 1) values) free) (has_value i x ∷ fixed_from (i + 1) (drop (i + 1) values) free)) (sym on)))
    ∙ ap (λ (xs : List ℤ). decisions ++ fixed_from i xs free) (sym split) ∙ is

pub step_fixed : (decisions more all : List Atom) (values : List ℤ) (free : List ℕ) (i : ℕ) (d : ℤ) → i < length values → false ≡ is_on free i → more ≡ decisions ++ has_value i (get_or values i d) ∷ [] → decisions ++ fixed_from i (drop i values) free ≡ all
    → more ++ fixed_from (i + 1) (drop (i + 1) values) free ≡ all
step_fixed decisions more all values free i d l not_on pushed is =
    let x = get_or values i d in
    let rest = fixed_from (i + 1) (drop (i + 1) values) free in
    let split : drop i values ≡ x ∷ drop (i + 1) values = drop-cons values i d l ∙ ap (λ (n : ℕ). x ∷ drop n values) (sym (add-one i)) in
    ap (λ (ts : List Atom). ts ++ rest) pushed ∙ append_assoc decisions (has_value i x ∷ []) rest
    ∙ ap (λ (ts : List Atom). decisions ++ ts) (sym (ap (λ (b : Bool). cond b rest (has_value i x ∷ rest)) (sym not_on)))
    ∙ ap (λ (xs : List ℤ). decisions ++ fixed_from i xs free) (sym split) ∙ is

-- the values at their end
pub all_fixed : (decisions all : List Atom) (values : List ℤ) (free : List ℕ) (i : ℕ) → length values ≤ i → decisions ++ fixed_from i (drop i values) free ≡ all → decisions ≡ all
all_fixed decisions all values free i l is =
    sym (append_nil decisions) ∙ ap (λ (xs : List ℤ). decisions ++ fixed_from i xs free) (sym (drop_all values i l)) ∙ is
  where
    append_nil : (ts : List Atom) → ts ++ [] ≡ ts
    append_nil [] = refl
    append_nil (t ∷ ts) = ap (λ (us : List Atom). t ∷ us) (append_nil ts)

    drop_all : (xs : List ℤ) (i : ℕ) → length xs ≤ i → drop i xs ≡ []
    drop_all xs i l = grind (arith, common_steps)

-- the places of free variables as the next variable comes
pub before_next : (free : List ℕ) (place i : ℕ) → ((k : ℕ) → k < place → k < length free → get_or free k 0 < i) → get_or free place 0 ≡ i → (k : ℕ) → k < place + 1 → k < length free → get_or free k 0 < i + 1
before_next free place i before here k l m = elim (cases k l) [
  | inl less ↦ (let h = before k less m in omega (arith, h))
  | inr same ↦ (let h : get_or free k 0 ≡ i = ap (λ (n : ℕ). get_or free n 0) same ∙ here in omega (arith, h))
]
  where
    cases : (k : ℕ) → k < place + 1 → (k < place) ⊎ (k ≡ place)
    cases k l = grind arith

pub after_next : (free : List ℕ) (place i : ℕ) → AscendsStrictly free → get_or free place 0 ≡ i → (k : ℕ) → place + 1 ≤ k → k < length free → i + 1 ≤ get_or free k 0
after_next free place i rising here k l m = let h = rising place k (omega (arith, l)) m in omega (arith, h, here)

pub after_other : (free : List ℕ) (place i : ℕ) → AscendsStrictly free → ((k : ℕ) → place ≤ k → k < length free → i ≤ get_or free k 0) → (place < length free → get_or free place 0 ≡ i → ⊥) → (k : ℕ) → place ≤ k → k < length free → i + 1 ≤ get_or free k 0
after_other free place i rising after other k l m = elim (cases k l) [
  | inl same ↦
      let within : place < length free = subst (λ (n : ℕ). n < length free) same m in
      let low = after place (omega arith) within in
      let apart : get_or free place 0 ≡ i → ⊥ = other within in
      subst (λ (n : ℕ). i + 1 ≤ get_or free n 0) (sym same) (above (get_or free place 0) i low apart)
  | inr later ↦ (let low = after place (omega arith) (omega (arith, later, m)) in let up = rising place k later m in omega (arith, low, up))
]
  where
    cases : (k : ℕ) → place ≤ k → (k ≡ place) ⊎ (place < k)
    cases k l = grind arith

    above : (a b : ℕ) → b ≤ a → (a ≡ b → ⊥) → b + 1 ≤ a
    above a b l ne = grind arith

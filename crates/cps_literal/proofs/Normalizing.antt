-- How the normal form of a clause is made, one atom after another.
use Rattle.std.proofs.Common.{ℕ, pos, zero, suc, ◌+◌, ◌<◌, ◌≤◌, ℤ, ◌≤ℤ◌, ◌<ℤ◌, ◌≡◌, Bool, true, false, ◌&&◌, ◌||◌, ◌⊎◌, inl, inr, List, [], ◌∷◌, ◌++◌, length, get_or, take, refl, sym, ◌∙◌, ap, subst, true≢false, arith}
use Rattle.std.specs.Prelude.{◌==◌, nat_lt, int_lt, All, Any, Contains}
use Rattle.std.specs.List.{remove, refill}
use Rattle.std.specs.List.Sorted.{IsSortedBy, IsPermutation}
use Rattle.std.specs.Cmp.{IsStrictWeakOrder}
use Rattle.std.proofs.lemmas.Int.{ints, by_lt_z}
use Rattle.std.proofs.lemmas.Bool.{eqb-true, eq-eqb, cases_lt}
use Rattle.std.proofs.lemmas.Bool.Decides.{nat_tests}
use Rattle.std.proofs.lemmas.List.{get_or-take, get_or_default, take_more, length-take}
use Rattle.std.proofs.Math.Seq.{take-length}
use Rattle.std.proofs.lemmas.List.Edits.{length-remove}
use Rattle.std.proofs.lemmas.List.Folds.{Any-from_list_any, list_any-from_Any}
use Rattle.std.proofs.lemmas.List.Elements.{All-contains, Contains-get_or, Contains-push_cases, Contains-append_left, Contains-push}
use Rattle.std.proofs.lemmas.List.Quantifiers.{all_pairs_push, all_pairs_remove}
use Rattle.std.proofs.lemmas.List.Sorted.{sorted_far, All-permutation, Contains-permutation, IsPermutation-sym}
use Rattle.cps_domain.proofs.Tests.{or_cases, or_right, both, first_of_both, second_of_both, same_test, test_false}
use Rattle.cps_literal.specs.Truth.{meets, atom_holds, clause_holds, Implies, value_at}
use Rattle.cps_literal.specs.Normal.{rank, comes_before, IsApart, IsNormal, IsNormalOf, Includes}
use Rattle.cps_literal.specs.declared.atom.Op.{Op}
use Rattle.cps_literal.specs.declared.atom.Op.TheVariants.{Le, Ge, Eq, Ne}
use Rattle.cps_literal.specs.declared.atom.Atom.{Atom}

pub Implies-refl : (t : Atom) → Implies t t
Implies-refl t = record { subject = refl; follows = λ x h. h }

pub Implies-trans : (t u w : Atom) → Implies t u → Implies u w → Implies t w
Implies-trans t u w a b = record { subject = a.subject ∙ b.subject; follows = λ x h. b.follows x (a.follows x h) }

-- an implied atom is true wherever the other is
pub holds_too : (t u : Atom) (a : List ℤ) → Implies t u → atom_holds a t ≡ true → atom_holds a u ≡ true
holds_too t u a i h = let f = subst (λ n. meets t.op t.value (value_at a n) ≡ true) i.subject h in i.follows (value_at a u.subject) f

-- a clause is true where one of its atoms is
Any-of : (P : Atom → Type 0) (c : List Atom) (w : Atom) → Contains c w → P w → Any P c
Any-of P c w h p = (h.0, w, h.1, h.2, p)

true_by : (a : List ℤ) (c : List Atom) (t : Atom) → Contains c t → atom_holds a t ≡ true → clause_holds c a ≡ true
true_by a c t h e = list_any-from_Any (atom_holds a) c (Any-of (λ u. atom_holds a u ≡ true) c t h e)

-- a normal form has the truth of the atoms that it was made of
pub IsNormalOf-truth : (atoms clause : List Atom) (a : List ℤ) → IsNormalOf atoms clause → clause_holds clause a ≡ clause_holds atoms a
IsNormalOf-truth atoms clause a h =
    same_test (clause_holds clause a) (clause_holds atoms a)
    (λ e. let t = Any-from_list_any (atom_holds a) clause e in true_by a atoms t.1 (All-contains (Contains atoms) clause t.1 h.kept (t.0, t.2, t.3)) t.4)
    (λ e.
    let t = Any-from_list_any (atom_holds a) atoms e in
    let u = All-contains (λ v. Any (Implies v) clause) atoms t.1 h.covered (t.0, t.2, t.3) in
    true_by a clause u.1 (u.0, u.2, u.3) (holds_too t.1 u.1 a u.4 t.4))

-- the order of atoms, by its three parts
abbrev ComesBefore : Atom → Atom → Type 0
ComesBefore t u = (t.subject < u.subject) ⊎ ((t.subject ≡ u.subject) × ((rank t.op < rank u.op) ⊎ ((rank t.op ≡ rank u.op) × (t.value <ℤ u.value))))

abbrev IsAtMost : Atom → Atom → Type 0
IsAtMost u t = (u.subject < t.subject) ⊎ ((u.subject ≡ t.subject) × ((rank u.op < rank t.op) ⊎ ((rank u.op ≡ rank t.op) × (u.value ≤ℤ t.value))))

or_left : (a b : Bool) → a ≡ true → (a || b) ≡ true
or_left true b e = refl
or_left false b e = absurd (true≢false (sym e))

by_order : {C : Type 0} (a b : ℕ) → (a < b → C) → (a ≡ b → C) → (b < a → C) → C
by_order a b f g h = elim (cases_lt a b) [ inl l ↦ f l | inr l ↦ elim (cases_lt b a) [ inl k ↦ h k | inr k ↦ g (omega (arith, l, k)) ] ]

lt_yes : (a b : ℕ) → a < b → nat_lt a b ≡ true
lt_yes a b h = grind (arith, nat_tests)

yes_lt_nat : (a b : ℕ) → nat_lt a b ≡ true → a < b
yes_lt_nat a b h = grind (arith, nat_tests)

lt_yes_z : (x v : ℤ) → x <ℤ v → int_lt x v ≡ true
lt_yes_z x v h = grind (arith, ints)

yes_lt : (x v : ℤ) → int_lt x v ≡ true → x <ℤ v
yes_lt x v h = grind (arith, ints)

before_core : (s r s' r' : ℕ) (v v' : ℤ) → (nat_lt s s' || (s == s' && (nat_lt r r' || (r == r' && int_lt v v')))) ≡ true
    → (s < s') ⊎ ((s ≡ s') × ((r < r') ⊎ ((r ≡ r') × (v <ℤ v'))))
before_core s r s' r' v v' e =
    elim (or_cases (nat_lt s s') _ e) [
      | inl a ↦ inl (yes_lt_nat s s' a)
      | inr a ↦ (
          let same : s ≡ s' = eqb-true s s' (first_of_both (s == s') _ a) in
          elim (or_cases (nat_lt r r') _ (second_of_both (s == s') _ a)) [
            | inl b ↦ inr (same, inl (yes_lt_nat r r' b))
            | inr b ↦ (let alike : r ≡ r' = eqb-true r r' (first_of_both (r == r') _ b) in let c = second_of_both (r == r') _ b in inr (same, inr (alike, yes_lt v v' c)))
          ])
    ]

at_most_core : (s r s' r' : ℕ) (v v' : ℤ) → (nat_lt s s' || (s == s' && (nat_lt r r' || (r == r' && int_lt v v')))) ≡ false
    → (s' < s) ⊎ ((s' ≡ s) × ((r' < r) ⊎ ((r' ≡ r) × (v' ≤ℤ v))))
at_most_core s r s' r' v v' e =
    by_order s s'
    (λ l. absurd (true≢false (sym (or_left (nat_lt s s') _ (lt_yes s s' l)) ∙ e)))
    (λ q. by_order r r'
    (λ l. absurd (true≢false (sym (or_right (nat_lt s s') _ (both (s == s') _ (eq-eqb s s' q) (or_left (nat_lt r r') _ (lt_yes r r' l)))) ∙ e)))
    (λ p. inr (
      sym q,
      inr (
        sym p,
        by_lt_z v v'
            (λ l. absurd (true≢false (sym (or_right (nat_lt s s') _ (both (s == s') _ (eq-eqb s s' q) (or_right (nat_lt r r') _ (both (r == r') _ (eq-eqb r r' p) (lt_yes_z v v' l))))) ∙ e)))
            (λ l. l),
      ),
    ))
    (λ l. inr (sym q, inl l)))
    (λ l. inl l)

before : (t u : Atom) → comes_before t u ≡ true → ComesBefore t u
before t u e = before_core t.subject (rank t.op) u.subject (rank u.op) t.value u.value e

at_most : (t u : Atom) → comes_before t u ≡ false → IsAtMost u t
at_most t u e = at_most_core t.subject (rank t.op) u.subject (rank u.op) t.value u.value e

test_true : (b : Bool) → (b ≡ false → ⊥) → b ≡ true
test_true true h = refl
test_true false h = absurd (h refl)

pub order : IsStrictWeakOrder comes_before
order = record {
  one_way = λ t u e. test_false (comes_before u t) (λ f. let a = before t u e in let b = before u t f in omega (arith, ints, a, b));
  chain = λ t u w e f. test_false (comes_before t w) (λ g. let a = at_most t u e in let b = at_most u w f in let c = before t w g in omega (arith, ints, a, b, c));
}

-- where neither comes before the other they are the same
rank_same : (o p : Op) → rank o ≡ rank p → o ≡ p
rank_same Le Le e = refl
rank_same Le Ge e = absurd (omega (arith, e))
rank_same Le Eq e = absurd (omega (arith, e))
rank_same Le Ne e = absurd (omega (arith, e))
rank_same Ge Le e = absurd (omega (arith, e))
rank_same Ge Ge e = refl
rank_same Ge Eq e = absurd (omega (arith, e))
rank_same Ge Ne e = absurd (omega (arith, e))
rank_same Eq Le e = absurd (omega (arith, e))
rank_same Eq Ge e = absurd (omega (arith, e))
rank_same Eq Eq e = refl
rank_same Eq Ne e = absurd (omega (arith, e))
rank_same Ne Le e = absurd (omega (arith, e))
rank_same Ne Ge e = absurd (omega (arith, e))
rank_same Ne Eq e = absurd (omega (arith, e))
rank_same Ne Ne e = refl

fields_same : (s s' : ℕ) (o o' : Op) (v v' : ℤ) → s ≡ s' → o ≡ o' → v ≡ v' → (let t : Atom = record { subject = s; op = o; value = v } in t) ≡ (let u : Atom = record { subject = s'; op = o'; value = v' } in u)
fields_same s s' o o' v v' e f g = cc

pub atom_same : (t u : Atom) → t.subject ≡ u.subject → rank t.op ≡ rank u.op → t.value ≡ u.value → t ≡ u
atom_same t u e f g = fields_same t.subject u.subject t.op u.op t.value u.value e (rank_same t.op u.op f) g

pub comes_or_same : (t u : Atom) → comes_before u t ≡ false → (t ≡ u → ⊥) → comes_before t u ≡ true
comes_or_same t u e n = test_true (comes_before t u) (λ f. n (
    let a = at_most u t e in let b = at_most t u f in
    atom_same t u (omega (arith, ints, a, b)) (omega (arith, ints, a, b)) (omega (arith, ints, a, b))))

-- neither implies the other
pub record IsFree (u t : Atom) : Type 0 where
  pub one : Implies u t → ⊥
  pub other : Implies t u → ⊥

-- how far the atoms before one more were looked at, from the last down
pub record IncludedSoFar (old : List Atom) (atom : Atom) (now : List Atom) (place : ℕ) : Type 0 where
  pub normal : IsNormal now
  pub inside : place ≤ length now
  pub kept : (u : Atom) → Contains now u → Contains old u
  pub lost : (u : Atom) → Contains old u → Contains now u ⊎ Implies u atom
  pub passed : (k : ℕ) (d : Atom) → place ≤ k → k < length now → IsFree (get_or now k d) atom

pub included_none : (old : List Atom) (atom : Atom) (n : ℕ) → n ≡ length old → IsNormal old → IncludedSoFar old atom old n
included_none old atom n e h = record {
  normal = h;
  inside = omega (arith, e);
  kept = λ u i. i;
  lost = λ u i. inl i;
  passed = λ k d a b. absurd (omega (arith, e, a, b));
}

-- the atom at the place stays
pub included_pass : (old now : List Atom) (atom other : Atom) (place p : ℕ) → p + 1 ≡ place → other ≡ get_or now p other → (Implies atom other → ⊥) → (Implies other atom → ⊥)
    → IncludedSoFar old atom now place → IncludedSoFar old atom now p
included_pass old now atom other place p e is f g s = record {
  normal = s.normal;
  inside = omega (arith, e, s.inside);
  kept = s.kept;
  lost = s.lost;
  passed = λ k d a b. elim (cases_lt p k) [
    | inl l ↦ s.passed k d (omega (arith, e, l)) b
    | inr l ↦ (
        let same : k ≡ p = omega (arith, a, l) in
        let here : get_or now k d ≡ other = ap (λ j. get_or now j d) same ∙ get_or_default now p d other (omega (arith, same, b)) ∙ sym is in
        subst (λ t. IsFree t atom) (sym here) (record { one = g; other = f }))
  ];
}

-- what a read of an atom gives past the end
abbrev pub none : Atom
none = record { subject = 0; op = Le; value = pos 0 }

pub read_is : (xs now : List Atom) (p : ℕ) → xs ≡ now → p < length now → get_or xs p none ≡ get_or now p (get_or xs p none)
read_is xs now p e l = ap (λ c. get_or c p none) e ∙ get_or_default now p none (get_or xs p none) l

-- what a list with one more element in front contains
contains_head : (x : Atom) (xs : List Atom) (u : Atom) → x ≡ u → Contains (x ∷ xs) u
contains_head x xs u e = (zero, omega arith, e)

contains_tail : (x : Atom) (xs : List Atom) (u : Atom) → Contains xs u → Contains (x ∷ xs) u
contains_tail x xs u h = (suc h.0, omega (arith, h.1), h.2)

contains_cases : (x : Atom) (xs : List Atom) (u : Atom) → Contains (x ∷ xs) u → (x ≡ u) ⊎ Contains xs u
contains_cases x xs u (zero, l, e) = inl e
contains_cases x xs u (suc k, l, e) = inr (k, omega (arith, l), e)

-- or goes, as it implies the one to be added
contains_remove : (xs : List Atom) (n : ℕ) (u : Atom) → Contains (remove xs n) u → Contains xs u
contains_remove [] zero u h = h
contains_remove [] (suc n) u h = h
contains_remove (x ∷ xs) zero u h = contains_tail x xs u h
contains_remove (x ∷ xs) (suc n) u h =
    elim (contains_cases x (remove xs n) u h) [
      | inl e ↦ contains_head x xs u e
      | inr i ↦ contains_tail x xs u (contains_remove xs n u i)
    ]

removed_cases : (xs : List Atom) (n : ℕ) (d u : Atom) → n < length xs → Contains xs u → Contains (remove xs n) u ⊎ (get_or xs n d ≡ u)
removed_cases [] n d u l h = absurd (omega (arith, l))
removed_cases (x ∷ xs) zero d u l h = elim (contains_cases x xs u h) [ inl e ↦ inr e | inr i ↦ inl i ]
removed_cases (x ∷ xs) (suc n) d u l h =
    elim (contains_cases x xs u h) [
      | inl e ↦ inl (contains_head x (remove xs n) u e)
      | inr i ↦ elim (removed_cases xs n d u (omega (arith, l)) i) [
        | inl j ↦ inl (contains_tail x (remove xs n) u j)
        | inr e ↦ inr e
      ]
    ]

get_or-remove : (xs : List Atom) (n k : ℕ) (d : Atom) → n ≤ k → get_or (remove xs n) k d ≡ get_or xs (suc k) d
get_or-remove [] zero k d h = refl
get_or-remove [] (suc n) k d h = refl
get_or-remove (x ∷ xs) zero k d h = refl
get_or-remove (x ∷ xs) (suc n) zero d h = absurd (omega (arith, h))
get_or-remove (x ∷ xs) (suc n) (suc k) d h = get_or-remove xs n k d (omega (arith, h))

pub included_remove : (old now new : List Atom) (atom other : Atom) (place p : ℕ) → p + 1 ≡ place → other ≡ get_or now p other → Implies other atom → new ≡ remove now p
    → IncludedSoFar old atom now place → IncludedSoFar old atom new p
included_remove old now new atom other place p e is g n s =
    let i = s.inside in
    let l : p < length now = omega (arith, e, i) in
    let len = length-remove now p l in
    subst (λ c. IncludedSoFar old atom c p) (sym n) (record {
      normal = all_pairs_remove IsApart now p l s.normal;
      inside = omega (arith, e, i, len);
      kept = λ u h. s.kept u (contains_remove now p u h);
      lost = λ u h. elim (s.lost u h) [
        | inl j ↦ elim (removed_cases now p other u l j) [
          | inl j' ↦ inl j'
          | inr f ↦ inr (subst (λ t. Implies t atom) (is ∙ f) g)
        ]
        | inr j ↦ inr j
      ];
      passed = λ k d a b. subst (λ t. IsFree t atom) (sym (get_or-remove now p k d a)) (s.passed (suc k) d (omega (arith, e, a)) (omega (arith, len, b)));
    })

-- the atom implies one that is kept
pub included_already : (old now : List Atom) (atom other : Atom) (place p : ℕ) → p < length now → other ≡ get_or now p other → Implies atom other → IncludedSoFar old atom now place → Includes old atom now
included_already old now atom other place p l is g s =
    let w : Contains now other = (p, l, sym is) in
    record {
      normal = s.normal;
      kept = λ u h. inl (s.kept u h);
      covered = λ u h. elim h [
        | inl i ↦ elim (s.lost u i) [
          | inl j ↦ Any-of (Implies u) now u j (Implies-refl u)
          | inr j ↦ Any-of (Implies u) now other w (Implies-trans u atom other j g)
        ]
        | inr e ↦ Any-of (Implies u) now other w (subst (λ t. Implies t other) (sym e) g)
      ];
    }

-- the atom is added
pub included_push : (old now new : List Atom) (atom : Atom) → ((k : ℕ) (d : Atom) → k < length now → IsFree (get_or now k d) atom) → All (λ u. comes_before atom u ≡ false) old → new ≡ now ++ (atom ∷ []) → (place : ℕ)
    → IncludedSoFar old atom now place → Includes old atom new
included_push old now new atom free order' n place s =
    subst (λ c. Includes old atom c) (sym n) (record {
      normal = all_pairs_push IsApart now atom s.normal (λ k d l.
          let f = free k d l in
          let b = All-contains (λ u. comes_before atom u ≡ false) old (get_or now k d) order' (s.kept (get_or now k d) (Contains-get_or now k d l)) in
          record {
            before = comes_or_same (get_or now k d) atom b (λ e. f.one (subst (λ t. Implies (get_or now k d) t) e (Implies-refl (get_or now k d))));
            one = f.one;
            other = f.other;
          });
      kept = λ u h. elim (Contains-push_cases now atom u h) [ inl i ↦ inl (s.kept u i) | inr e ↦ inr (sym e) ];
      covered = λ u h. elim h [
        | inl i ↦ elim (s.lost u i) [
          | inl j ↦ Any-of (Implies u) (now ++ (atom ∷ [])) u (Contains-append_left now (atom ∷ []) u j) (Implies-refl u)
          | inr j ↦ Any-of (Implies u) (now ++ (atom ∷ [])) atom (Contains-push now atom) j
        ]
        | inr e ↦ Any-of (Implies u) (now ++ (atom ∷ [])) atom (Contains-push now atom) (subst (λ t. Implies t atom) (sym e) (Implies-refl atom))
      ];
    })

-- below an atom about another subject all are
pub free_below : (old now : List Atom) (atom other : Atom) (place p : ℕ) → p + 1 ≡ place → other ≡ get_or now p other → (other.subject ≡ atom.subject → ⊥) → All (λ u. comes_before atom u ≡ false) old
    → IncludedSoFar old atom now place → (k : ℕ) (d : Atom) → k < length now → IsFree (get_or now k d) atom
free_below old now atom other place p e is ne order' s k d l =
    elim (cases_lt p k) [
      | inl b ↦ s.passed k d (omega (arith, e, b)) l
      | inr b ↦ (
          let i = s.inside in
          let in' : p < length now = omega (arith, e, i) in
          let o = at_most atom other (All-contains (λ u. comes_before atom u ≡ false) old other order' (s.kept other (p, in', sym is))) in
          let below : (get_or now k d).subject ≤ other.subject = elim (cases_lt k p) [
            | inl c ↦ (
                let a = before (get_or now k d) (get_or now p d) (s.normal k p d c in').before in
                let here = ap (λ (t : Atom). t.subject) (get_or_default now p d other in' ∙ sym is) in
                omega (arith, ints, a, here))
            | inr c ↦ (
                let here = ap (λ (t : Atom). t.subject) (ap (λ j. get_or now j d) (let same : k ≡ p = omega (arith, b, c) in same) ∙ get_or_default now p d other in' ∙ sym is) in
                omega (arith, here))
          ] in
          record {
            one = λ h. let q = h.subject in ne (omega (arith, ints, o, below, q));
            other = λ h. let q = h.subject in ne (omega (arith, ints, o, below, q));
          })
    ]

pub free_all : (old now : List Atom) (atom : Atom) (place : ℕ) → place ≤ 0 → IncludedSoFar old atom now place → (k : ℕ) (d : Atom) → k < length now → IsFree (get_or now k d) atom
free_all old now atom place z s k d l = s.passed k d (omega (arith, z)) l

-- how far the sorted atoms were taken
pub record NormalSoFar (sorted clause : List Atom) (i : ℕ) : Type 0 where
  pub normal : IsNormal clause
  pub kept : (u : Atom) → Contains clause u → Contains (take i sorted) u
  pub covered : (u : Atom) → Contains (take i sorted) u → Any (Implies u) clause

take_none : (xs : List Atom) → take 0 xs ≡ []
take_none [] = refl
take_none (x ∷ xs) = refl

pub normal_none : (sorted : List Atom) → NormalSoFar sorted [] 0
normal_none sorted = record {
  normal = λ i j d a b. absurd (omega (arith, b));
  kept = λ u h. absurd (omega (arith, h.1));
  covered = λ u h. absurd (let e = ap (λ (c : List Atom). length c) (take_none sorted) in omega (arith, h.1, e));
}

pub next_order : (sorted kept : List Atom) (i : ℕ) (d : Atom) → i < length sorted → IsSortedBy comes_before sorted → NormalSoFar sorted kept i → All (λ u. comes_before (get_or sorted i d) u ≡ false) kept
next_order sorted kept i d l up s = λ k e h.
    let c = s.kept (get_or kept k e) (Contains-get_or kept k e h) in
    let j : c.0 < i = omega (arith, c.1, length-take i sorted) in
    let at' : get_or sorted c.0 (get_or kept k e) ≡ get_or kept k e = sym (get_or-take i sorted c.0 (get_or kept k e) j) ∙ c.2 in
    let f = sorted_far comes_before order sorted up c.0 i (get_or kept k e) (omega (arith, j)) l in
    subst (λ t. comes_before (get_or sorted i d) t ≡ false) at' (subst (λ t. comes_before t (get_or sorted c.0 (get_or kept k e)) ≡ false) (get_or_default sorted i (get_or kept k e) d l) f)

pub normal_more : (sorted kept new : List Atom) (i : ℕ) (d : Atom) → i < length sorted → NormalSoFar sorted kept i → Includes kept (get_or sorted i d) new → NormalSoFar sorted new (i + 1)
normal_more sorted kept new i d l s n =
    let e = take_more sorted i d l in
    record {
      normal = n.normal;
      kept = λ u h. subst (λ c. Contains c u) (sym e) (elim (n.kept u h) [
        | inl j ↦ Contains-append_left (take i sorted) (get_or sorted i d ∷ []) u (s.kept u j)
        | inr f ↦ subst (λ t. Contains (take i sorted ++ (get_or sorted i d ∷ [])) t) (sym f) (Contains-push (take i sorted) (get_or sorted i d))
      ]);
      covered = λ u h. elim (Contains-push_cases (take i sorted) (get_or sorted i d) u (subst (λ c. Contains c u) e h)) [
        | inl j ↦ (
            let w = s.covered u j in
            let v = n.covered w.1 (inl (w.0, w.2, w.3)) in
            (v.0, v.1, v.2, v.3, Implies-trans u w.1 v.1 w.4 v.4))
        | inr f ↦ n.covered u (inr (sym f))
      ];
    }

-- all sorted atoms were taken
pub normal_done : (sorted kept : List Atom) (n : ℕ) → n ≡ length sorted → NormalSoFar sorted kept n → IsNormalOf sorted kept
normal_done sorted kept n l s =
    let e = ap (λ j. take j sorted) l ∙ take-length sorted in
    record {
      kept = λ k d l. subst (λ c. Contains c (get_or kept k d)) e (s.kept (get_or kept k d) (Contains-get_or kept k d l));
      covered = λ k d l. s.covered (get_or sorted k d) (subst (λ c. Contains c (get_or sorted k d)) (sym e) (Contains-get_or sorted k d l));
    }

-- the normal form of a list is one of each of its orders
pub normal_of_order : (atoms sorted kept : List Atom) → IsPermutation atoms sorted → IsNormalOf sorted kept → IsNormalOf atoms kept
normal_of_order atoms sorted kept p h =
    let back = IsPermutation-sym atoms sorted p in
    record {
      kept = λ k d l. Contains-permutation sorted atoms (get_or kept k d) back (h.kept k d l);
      covered = All-permutation (λ t. Any (Implies t) kept) sorted atoms back h.covered;
    }

-- a sorted part is written back whole
take_front : (xs ys : List Atom) (n : ℕ) → n ≡ length xs → take n (xs ++ ys) ≡ xs
take_front [] ys zero e = take_none ys
take_front [] ys (suc n) e = absurd (omega (arith, e))
take_front (x ∷ xs) ys zero e = absurd (omega (arith, e))
take_front (x ∷ xs) ys (suc n) e = ap (λ zs. x ∷ zs) (take_front xs ys n (omega (arith, e)))

pub refill_all : (xs ys : List Atom) (n : ℕ) → n ≡ length ys → refill n xs ys ≡ ys
refill_all xs ys n e = take_front ys _ n e

pub made_of : (atoms copied sorted xs : List Atom) → copied ≡ atoms → IsPermutation copied sorted → xs ≡ sorted → IsPermutation atoms xs
made_of atoms copied sorted xs e p f = subst (λ ys. IsPermutation atoms ys) (sym f) (subst (λ ys. IsPermutation ys sorted) e p)

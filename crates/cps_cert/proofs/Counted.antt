-- How many assignments a box has of the variables that are read, as one more is read.
use Rattle.std.specs.Prelude.{Contains, MatchBool, ◌||◌, ◌==◌}
use Rattle.std.proofs.Common.{◌≡◌, ℕ, zero, suc, ◌+◌, ◌*◌, ◌<◌, ◌≤◌, List, [], ◌∷◌, ◌++◌, length, get_or, Bool, true, false, ◌⊎◌, inl, inr, refl, sym, ◌∙◌, subst, arith, ℤ}
use Rattle.std.proofs.Math.Nat.{mul-le-mul_left, mul-le-mul_right}
use Rattle.std.proofs.lemmas.Bool.{cases_lt}
use Rattle.std.proofs.lemmas.Bool.Decides.{nat_tests}
use Rattle.cps_unit.specs.Boxes.{Box}
use Rattle.cps_cert.specs.Counting.{is_listed, HasCount, HasAssignments}
use Rattle.cps_cert.proofs.Rises.{count_same, count_some}

-- ---- what is listed

pub same_number : (x v : ℕ) → (x == v) ≡ true → x ≡ v
same_number x v e = grind (arith, nat_tests)

pub differs : (x v : ℕ) → (x == v) ≡ false → x ≡ v → ⊥
differs x v e s = grind (arith, nat_tests)

number_same : (x : ℕ) → (x == x) ≡ true
number_same x = grind (arith, nat_tests)

pub other_number : (x v : ℕ) → (x ≡ v → ⊥) → (x == v) ≡ false
other_number x v d = grind (arith, nat_tests)

pub or_right : (a b : Bool) → b ≡ true → (a || b) ≡ true
or_right true b e = refl
or_right false b e = e

listed_by : (x v : ℕ) (xs : List ℕ) (k : ℕ) → (Contains xs v → is_listed xs v ≡ true) → k < length (x ∷ xs) → get_or (x ∷ xs) k v ≡ v → is_listed (x ∷ xs) v ≡ true
listed_by x v xs zero next l e = rw (e, number_same v) refl
listed_by x v xs (suc k) next l e = or_right (x == v) (is_listed xs v) (next (k, omega arith, e))

pub listed_of : (xs : List ℕ) (v : ℕ) → Contains xs v → is_listed xs v ≡ true
listed_of [] v c = absurd (let l = c.1 in omega arith)
listed_of (x ∷ xs) v c = listed_by x v xs c.0 (listed_of xs v) c.1 c.2

contains_by : (x v : ℕ) (xs : List ℕ) (b : Bool) → (x == v) ≡ b → (is_listed xs v ≡ true → Contains xs v) → (b || is_listed xs v) ≡ true → Contains (x ∷ xs) v
contains_by x v xs true e next h = (0, omega arith, same_number x v e)
contains_by x v xs false e next h = let c = next h in let l = c.1 in (suc c.0, omega arith, c.2)

pub contains_of : (xs : List ℕ) (v : ℕ) → is_listed xs v ≡ true → Contains xs v
contains_of [] v h = cc
contains_of (x ∷ xs) v h = contains_by x v xs (x == v) refl (contains_of xs v) h

or_assoc : (a b c : Bool) → ((a || b) || c) ≡ (a || (b || c))
or_assoc true b c = refl
or_assoc false b c = refl

or_none : (a : Bool) → (a || false) ≡ a
or_none true = refl
or_none false = refl

pub listed_append : (xs ys : List ℕ) (v : ℕ) → is_listed (xs ++ ys) v ≡ (is_listed xs v || is_listed ys v)
listed_append [] ys v = refl
listed_append (x ∷ xs) ys v = rw (listed_append xs ys v) (sym (or_assoc (x == v) (is_listed xs v) (is_listed ys v)))

-- with one variable more another is listed as before
listed_else : (xs : List ℕ) (x v : ℕ) → (x ≡ v → ⊥) → is_listed xs v ≡ is_listed (xs ++ x ∷ []) v
listed_else xs x v d = rw (listed_append xs (x ∷ []) v, other_number x v d) (sym (or_none (is_listed xs v)))

listed_last : (xs : List ℕ) (x : ℕ) → is_listed (xs ++ x ∷ []) x ≡ true
listed_last xs x = rw (listed_append xs (x ∷ []) x, number_same x) (or_right (is_listed xs x) true refl)

-- one that is listed already changes nothing
listed_again_by : (xs : List ℕ) (x v : ℕ) (b : Bool) → (x == v) ≡ b → is_listed xs x ≡ true → is_listed xs v ≡ (is_listed xs v || (b || false))
listed_again_by xs x v true e h = let s = same_number x v e in rw (← s, h) refl
listed_again_by xs x v false e h = sym (or_none (is_listed xs v))

listed_again : (xs : List ℕ) (x v : ℕ) → is_listed xs x ≡ true → is_listed xs v ≡ is_listed (xs ++ x ∷ []) v
listed_again xs x v h = rw (listed_append xs (x ∷ []) v) (listed_again_by xs x v (x == v) refl h)

-- ---- how many assignments

module _ (box : Box) where
  abbrev Times : List ℕ → ℕ → ℕ → ℕ → Type 0
  Times xs i more n = (k : ℕ) × (m : ℕ) × HasCount (box i) k × HasAssignments box xs (i + 1) more m × (n ≡ k * m)

  when_listed : (xs : List ℕ) (i more n : ℕ) → is_listed xs i ≡ true → HasAssignments box xs i (suc more) n → Times xs i more n
  when_listed xs i more n e h = subst (λ (b : Bool). MatchBool b (Times xs i more n) (HasAssignments box xs (i + 1) more n)) e h

  if_listed : (xs : List ℕ) (i more n : ℕ) → is_listed xs i ≡ true → Times xs i more n → HasAssignments box xs i (suc more) n
  if_listed xs i more n e h = subst (λ (b : Bool). MatchBool b (Times xs i more n) (HasAssignments box xs (i + 1) more n)) (sym e) h

  when_not : (xs : List ℕ) (i more n : ℕ) → is_listed xs i ≡ false → HasAssignments box xs i (suc more) n → HasAssignments box xs (i + 1) more n
  when_not xs i more n e h = subst (λ (b : Bool). MatchBool b (Times xs i more n) (HasAssignments box xs (i + 1) more n)) e h

  if_not : (xs : List ℕ) (i more n : ℕ) → is_listed xs i ≡ false → HasAssignments box xs (i + 1) more n → HasAssignments box xs i (suc more) n
  if_not xs i more n e h = subst (λ (b : Bool). MatchBool b (Times xs i more n) (HasAssignments box xs (i + 1) more n)) (sym e) h

  -- lists with the same variables from one on
  same_by : (xs ys : List ℕ) (i more n : ℕ) (b : Bool) → is_listed xs i ≡ b → is_listed xs i ≡ is_listed ys i → ((m : ℕ) → HasAssignments box xs (i + 1) more m → HasAssignments box ys (i + 1) more m) → HasAssignments box xs i (suc more) n → HasAssignments box ys i (suc more) n
  same_by xs ys i more n true e s next h =
      let t = when_listed xs i more n e h in
      if_listed ys i more n (sym s ∙ e) (t.0, t.1, t.2, next t.1 t.3, t.4)
  same_by xs ys i more n false e s next h = if_not ys i more n (sym s ∙ e) (next n (when_not xs i more n e h))

  pub same_listed : (xs ys : List ℕ) (i more n : ℕ) → ((v : ℕ) → i ≤ v → v < i + more → is_listed xs v ≡ is_listed ys v) → HasAssignments box xs i more n → HasAssignments box ys i more n
  same_listed xs ys i zero n s h = h
  same_listed xs ys i (suc more) n s h =
      same_by xs ys i more n (is_listed xs i) refl (s i (omega arith) (omega arith))
      (λ m. same_listed xs ys (i + 1) more m (λ v l u. s v (omega arith) (omega arith))) h

  -- one variable more, of which the box leaves so many values
  product_turned : (c m s k : ℕ) → k ≡ c * m → k * s ≡ c * (m * s)
  product_turned c m s k e = rw e (omega arith)

  ahead : (xs : List ℕ) (x i more k s : ℕ) (b : Bool) → is_listed xs i ≡ b → i < x → ((m : ℕ) → HasAssignments box xs (i + 1) more m → HasAssignments box (xs ++ x ∷ []) (i + 1) more (m * s)) → HasAssignments box xs i (suc more) k → HasAssignments box (xs ++ x ∷ []) i (suc more) (k * s)
  ahead xs x i more k s true e l next h =
      let t = when_listed xs i more k e h in
      let here = sym (listed_else xs x i (λ same. omega arith)) ∙ e in
      if_listed (xs ++ x ∷ []) i more (k * s) here (t.0, t.1 * s, t.2, next t.1 t.3, product_turned t.0 t.1 s k t.4)
  ahead xs x i more k s false e l next h =
      if_not (xs ++ x ∷ []) i more (k * s) (sym (listed_else xs x i (λ same. omega arith)) ∙ e) (next k (when_not xs i more k e h))

  added_by : (xs : List ℕ) (x i more k s : ℕ) → is_listed xs x ≡ false → i ≤ x → HasCount (box x) s → ((m : ℕ) → i + 1 ≤ x → HasAssignments box xs (i + 1) more m → HasAssignments box (xs ++ x ∷ []) (i + 1) more (m * s)) → HasAssignments box xs i (suc more) k → (i < x) ⊎ (x ≤ i) → HasAssignments box (xs ++ x ∷ []) i (suc more) (k * s)
  added_by xs x i more k s none l count next h (inl c) = ahead xs x i more k s (is_listed xs i) refl c (λ m. next m (omega arith)) h
  added_by xs x i more k s none l count next h (inr c) =
      let is : x ≡ i = omega arith in
      let here : HasAssignments box xs (i + 1) more k = when_not xs i more k (subst (λ (v : ℕ). is_listed xs v ≡ false) is none) h in
      let rest = same_listed xs (xs ++ x ∷ []) (i + 1) more k (λ v a b. listed_else xs x v (λ same. omega arith)) here in
      let count_here : HasCount (box i) s = subst (λ (v : ℕ). HasCount (box v) s) is count in
      if_listed (xs ++ x ∷ []) i more (k * s) (subst (λ (v : ℕ). is_listed (xs ++ x ∷ []) v ≡ true) is (listed_last xs x)) (s, k, count_here, rest, omega arith)

  pub added : (xs : List ℕ) (x i more k s : ℕ) → is_listed xs x ≡ false → i ≤ x → x < i + more → HasCount (box x) s → HasAssignments box xs i more k → HasAssignments box (xs ++ x ∷ []) i more (k * s)
  added xs x i zero k s none l u count h = absurd (omega arith)
  added xs x i (suc more) k s none l u count h =
      added_by xs x i more k s none l count (λ m l'. added xs x (i + 1) more m s none l' (omega arith) count) h (cases_lt i x)

  -- one variable more that is listed already, or that the model does not have
  pub again : (xs : List ℕ) (x n k : ℕ) → is_listed xs x ≡ true → HasAssignments box xs 0 n k → HasAssignments box (xs ++ x ∷ []) 0 n k
  again xs x n k h = same_listed xs (xs ++ x ∷ []) 0 n k (λ v l u. listed_again xs x v h)

  pub beyond : (xs : List ℕ) (x n k : ℕ) → n ≤ x → HasAssignments box xs 0 n k → HasAssignments box (xs ++ x ∷ []) 0 n k
  beyond xs x n k l = same_listed xs (xs ++ x ∷ []) 0 n k (λ v a b. listed_else xs x v (λ same. omega arith))

  -- more variables have no fewer assignments
  product_below : (c k m c' : ℕ) → k ≤ m → 1 ≤ c' → c ≡ c' → c * k ≤ c' * m
  product_below c k m c' l one e = rw e (mul-le-mul_left c' l)

  product_grows : (k m c : ℕ) → k ≤ m → 1 ≤ c → k ≤ c * m
  product_grows k m c l one = let p = mul-le-mul_right m one in omega (arith, p)

  below_by : (xs ys : List ℕ) (i more k m : ℕ) (a b : Bool) → is_listed xs i ≡ a → is_listed ys i ≡ b → (a ≡ true → b ≡ true) → ((x : ℤ) × (box i x ≡ true)) → ((k' m' : ℕ) → HasAssignments box xs (i + 1) more k' → HasAssignments box ys (i + 1) more m' → k' ≤ m') → HasAssignments box xs i (suc more) k → HasAssignments box ys i (suc more) m → k ≤ m
  below_by xs ys i more k m true true e f sub some next h g =
      let t = when_listed xs i more k e h in
      let u = when_listed ys i more m f g in
      let counts : t.0 ≡ u.0 = count_same (box i) t.0 u.0 t.2 u.2 in
      rw (t.4, u.4) (product_below t.0 t.1 u.1 u.0 (next t.1 u.1 t.3 u.3) (count_some (box i) u.0 some.0 u.2 some.1) counts)
  below_by xs ys i more k m true false e f sub some next h g = let z = sub refl in cc
  below_by xs ys i more k m false true e f sub some next h g =
      let u = when_listed ys i more m f g in
      rw u.4 (product_grows k u.1 u.0 (next k u.1 (when_not xs i more k e h) u.3) (count_some (box i) u.0 some.0 u.2 some.1))
  below_by xs ys i more k m false false e f sub some next h g = next k m (when_not xs i more k e h) (when_not ys i more m f g)

  pub no_fewer : (xs ys : List ℕ) (i more k m : ℕ) → ((v : ℕ) → is_listed xs v ≡ true → is_listed ys v ≡ true) → ((v : ℕ) → v < i + more → (x : ℤ) × (box v x ≡ true)) → HasAssignments box xs i more k → HasAssignments box ys i more m → k ≤ m
  no_fewer xs ys i zero k m sub some h g = omega arith
  no_fewer xs ys i (suc more) k m sub some h g =
      below_by xs ys i more k m (is_listed xs i) (is_listed ys i) refl refl (sub i) (some i (omega arith))
      (λ k' m'. no_fewer xs ys (i + 1) more k' m' sub (λ v l. some v (omega arith))) h g

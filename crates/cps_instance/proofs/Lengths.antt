-- An interval's length takes its start to its end.
use Rattle.std.specs.Prelude.{if◌then◌else◌, ◌&&◌, ◌==◌, ◌-ℤ◌, neg_ℤ, unsigned_abs, unwrap_or, Option, Some, None}
use Rattle.std.specs.Int.{w128}
use Rattle.std.specs.List.{list_all}
use Rattle.std.specs.Ordering.{int_eq}
use Rattle.std.specs.HashMap.{HashMap}
use Rattle.std.proofs.Common.{◌≡◌, ℕ, zero, suc, ◌+◌, ◌*◌, ◌^◌, ◌≤◌, ◌<◌, min, FitsSigned, Bool, true, false, List, [], ◌∷◌, length, drop, length-drop, get_or, ℤ, pos, negsuc, ◌+ℤ◌, ◌*ℤ◌, ◌⊎◌, inl, inr, refl, sym, ◌∙◌, ap, subst, arith}
use Rattle.std.proofs.lemmas.List.{drop_more}
use Rattle.std.proofs.lemmas.Bool.{cases_eq}
use Rattle.std.proofs.lemmas.Int.{ints, fits_signed_from_abs}
use Rattle.std.proofs.lemmas.Bool.Decides.{nat_tests}
use Rattle.std.proofs.Math.IntN.{zero-*ℤ, *ℤ-zero}
use Rattle.cps_model.specs.declared.model.LinearExpr.{LinearExpr}
use Rattle.cps_model.specs.Values.{variable_of, variable_value, reference_value, sum_of, expression_value}
use Rattle.cps_model.proofs.Products.{times_plus}
use Rattle.cps_model.proofs.Tests.{and_true}
use Rattle.cps_instance.specs.Lengths.{signed_coefficient, coefficient_of, has_same_coefficient, have_same_coefficients, length_between}
use Rattle.cps_instance.specs.Merging.{merged_coefficient, HasCoefficientsOf}
use Rattle.cps_instance.proofs.Summing.{opposites}

equal_of : (m n : ℤ) → int_eq m n ≡ true → m ≡ n
equal_of m n h = grind (arith, ints)

-- a sum times a number
plus_times : (x y c : ℤ) → (x +ℤ y) *ℤ c ≡ x *ℤ c +ℤ y *ℤ c
plus_times x (pos k) c = times_plus c x k
plus_times x (negsuc k) c =
    let back : (x +ℤ negsuc k) +ℤ pos (suc k) ≡ x = omega (arith, ints) in
    let gone : negsuc k +ℤ pos (suc k) ≡ pos 0 = omega (arith, ints) in
    omega (arith, ints, times_plus c (x +ℤ negsuc k) (suc k), times_plus c (negsuc k) (suc k), ap (λ (z : ℤ). z *ℤ c) back, ap (λ (z : ℤ). z *ℤ c) gone, zero-*ℤ c)

-- the sum of each value times the weight of its number, from a number on
weighted : (ℕ → ℤ) → ℕ → List ℤ → ℤ
weighted f k [] = pos 0
weighted f k (x ∷ xs) = f k *ℤ x +ℤ weighted f (suc k) xs

weighted-nil : (f : ℕ → ℤ) (k : ℕ) → weighted f k [] ≡ pos 0
unfolding weighted
weighted-nil f k = refl

weighted-cons : (f : ℕ → ℤ) (k : ℕ) (x : ℤ) (xs : List ℤ) → weighted f k (x ∷ xs) ≡ f k *ℤ x +ℤ weighted f (suc k) xs
unfolding weighted
weighted-cons f k x xs = refl

weighted-same : (f g : ℕ → ℤ) (k : ℕ) (xs : List ℤ) → ((v : ℕ) → f v ≡ g v) → weighted f k xs ≡ weighted g k xs
weighted-same f g k [] h = weighted-nil f k ∙ sym (weighted-nil g k)
weighted-same f g k (x ∷ xs) h =
    let rest = weighted-same f g (suc k) xs h in
    omega (arith, ints, weighted-cons f k x xs, weighted-cons g k x xs, ap (λ (z : ℤ). z *ℤ x) (h k))

weighted-none : (f : ℕ → ℤ) (k : ℕ) (xs : List ℤ) → ((v : ℕ) → k ≤ v → f v ≡ pos 0) → weighted f k xs ≡ pos 0
weighted-none f k [] h = weighted-nil f k
weighted-none f k (x ∷ xs) h =
    let rest = weighted-none f (suc k) xs (λ v l. h v (omega arith)) in
    omega (arith, ints, weighted-cons f k x xs, ap (λ (z : ℤ). z *ℤ x) (h k (omega arith)), zero-*ℤ x)

weighted-plus : (f g : ℕ → ℤ) (k : ℕ) (xs : List ℤ) → weighted (λ v. f v +ℤ g v) k xs ≡ weighted f k xs +ℤ weighted g k xs
weighted-plus f g k [] = omega (arith, ints, weighted-nil (λ v. f v +ℤ g v) k, weighted-nil f k, weighted-nil g k)
weighted-plus f g k (x ∷ xs) =
    let rest = weighted-plus f g (suc k) xs in
    omega (arith, ints, weighted-cons (λ v. f v +ℤ g v) k x xs, weighted-cons f k x xs, weighted-cons g k x xs, plus_times (f k) (g k) x)

-- where one number alone has a weight
one_weight : ℕ → ℤ → ℕ → ℤ
one_weight v c w = if v == w then c else pos 0

one_weight-own : (v w : ℕ) (c : ℤ) → v ≡ w → one_weight v c w ≡ c
unfolding one_weight
one_weight-own v w c e = grind (arith, nat_tests)

one_weight-other : (v w : ℕ) (c : ℤ) → (v ≡ w → ⊥) → one_weight v c w ≡ pos 0
unfolding one_weight
one_weight-other v w c e = grind (arith, nat_tests)

weighted-one : (j k v : ℕ) (c : ℤ) (xs : List ℤ) → v ≡ k + j → weighted (one_weight v c) k xs ≡ c *ℤ get_or xs j (pos 0)
weighted-one j k v c [] e = weighted-nil (one_weight v c) k ∙ sym (*ℤ-zero c)
weighted-one zero k v c (x ∷ xs) e =
    let rest = weighted-none (one_weight v c) (suc k) xs (λ w l. one_weight-other v w c (λ h. omega arith)) in
    omega (arith, ints, weighted-cons (one_weight v c) k x xs, ap (λ (z : ℤ). z *ℤ x) (one_weight-own v k c (omega arith)))
weighted-one (suc j) k v c (x ∷ xs) e =
    let rest = weighted-one j (suc k) v c xs (omega arith) in
    omega (arith, ints, weighted-cons (one_weight v c) k x xs, ap (λ (z : ℤ). z *ℤ x) (one_weight-other v k c (λ h. omega arith)), zero-*ℤ x)

reference-weighted : (a : List ℤ) (r c : ℤ) → weighted (one_weight (variable_of r) (signed_coefficient r c)) 0 a ≡ c *ℤ reference_value a r
reference-weighted a (pos i) c = weighted-one i 0 i c a (omega arith)
reference-weighted a (negsuc i) c = weighted-one i 0 i (neg_ℤ c) a (omega arith) ∙ opposites c (variable_value a i)

coefficient-more : (v : ℕ) (r c : ℤ) (rs cs : List ℤ) → one_weight (variable_of r) (signed_coefficient r c) v +ℤ coefficient_of v rs cs ≡ coefficient_of v (r ∷ rs) (c ∷ cs)
unfolding one_weight
coefficient-more v r c rs cs = refl

-- a sum is what the merged coefficients of all variables give
sum-weighted : (a rs cs : List ℤ) → sum_of a rs cs ≡ weighted (λ v. coefficient_of v rs cs) 0 a
sum-weighted a [] cs = sym (weighted-none (λ v. coefficient_of v [] cs) 0 a (λ v l. refl))
sum-weighted a (r ∷ rs) [] = sym (weighted-none (λ v. coefficient_of v (r ∷ rs) []) 0 a (λ v l. refl))
sum-weighted a (r ∷ rs) (c ∷ cs) =
    let own = one_weight (variable_of r) (signed_coefficient r c) in
    let rest = sum-weighted a rs cs in
    let here = reference-weighted a r c in
    let both = weighted-plus own (λ v. coefficient_of v rs cs) 0 a in
    let all = weighted-same (λ v. own v +ℤ coefficient_of v rs cs) (λ v. coefficient_of v (r ∷ rs) (c ∷ cs)) 0 a (λ v. coefficient-more v r c rs cs) in
    omega (arith, ints)

-- a variable of the references has the same coefficient in both, and another one has none
seen_or_none : (start end : LinearExpr) (v : ℕ) (rs cs : List ℤ) → have_same_coefficients start end rs ≡ true
    → (coefficient_of v rs cs ≡ pos 0) ⊎ (coefficient_of v start.vars start.coeffs ≡ coefficient_of v end.vars end.coeffs)
seen_or_none start end v [] cs h = inl refl
seen_or_none start end v (r ∷ rs) [] h = inl refl
seen_or_none start end v (r ∷ rs) (c ∷ cs) h =
    let both = and_true (has_same_coefficient start end (variable_of r)) (have_same_coefficients start end rs) h in
    let same = equal_of (coefficient_of (variable_of r) start.vars start.coeffs) (coefficient_of (variable_of r) end.vars end.coeffs) both.0 in
    let P : ℕ → Type 0 = λ w. coefficient_of w start.vars start.coeffs ≡ coefficient_of w end.vars end.coeffs in
    elim (cases_eq (variable_of r) v) [
      | inl e ↦ inr (subst P e same)
      | inr n ↦ elim (seen_or_none start end v rs cs both.1) [
        | inl none ↦ inl (let own = one_weight-other (variable_of r) v (signed_coefficient r c) n in omega (arith, ints, coefficient-more v r c rs cs))
        | inr same' ↦ inr same'
      ]
    ]

same_at : (start end : LinearExpr) (v : ℕ) → have_same_coefficients start end start.vars ≡ true → have_same_coefficients start end end.vars ≡ true
    → coefficient_of v start.vars start.coeffs ≡ coefficient_of v end.vars end.coeffs
same_at start end v h k = elim (seen_or_none start end v start.vars start.coeffs h) [
  | inl none ↦ elim (seen_or_none start end v end.vars end.coeffs k) [
    | inl none' ↦ none ∙ sym none'
    | inr same ↦ same
  ]
  | inr same ↦ same
]

length_of : (b : Bool) (far d : ℤ) → (if b then Some d else None) ≡ Some far → (b ≡ true) × (d ≡ far)
length_of true far d h = (refl, cc)
length_of false far d h = cc

pub length_between-is : (a : List ℤ) (start end : LinearExpr) (far : ℤ) → length_between start end ≡ Some far → expression_value a start +ℤ far ≡ expression_value a end
length_between-is a start end far h =
    let picked = length_of (have_same_coefficients start end start.vars && have_same_coefficients start end end.vars) far (end.offset -ℤ start.offset) h in
    let tests = and_true (have_same_coefficients start end start.vars) (have_same_coefficients start end end.vars) picked.0 in
    let first = sum-weighted a start.vars start.coeffs in
    let last = sum-weighted a end.vars end.coeffs in
    let same = weighted-same (λ v. coefficient_of v start.vars start.coeffs) (λ v. coefficient_of v end.vars end.coeffs) 0 a (λ v. same_at start end v tests.0 tests.1) in
    let far_is = picked.1 in
    omega (arith, ints)

-- what a loop over the terms has merged, and what is left
pub coefficient-next : (v : ℕ) (rs cs : List ℤ) (k : ℕ) (r c : ℤ) → k < length rs → k < length cs → r ≡ get_or rs k (pos 0) → c ≡ get_or cs k (pos 0)
    → coefficient_of v (drop k rs) (drop k cs) ≡ (if variable_of r == v then signed_coefficient r c else pos 0) +ℤ coefficient_of v (drop (k + 1) rs) (drop (k + 1) cs)
coefficient-next v rs cs k r c p q er ec =
    let left : drop k rs ≡ r ∷ drop (k + 1) rs = drop_more rs k (pos 0) p ∙ ap (λ (x : ℤ). x ∷ drop (k + 1) rs) (sym er) in
    let right : drop k cs ≡ c ∷ drop (k + 1) cs = drop_more cs k (pos 0) q ∙ ap (λ (x : ℤ). x ∷ drop (k + 1) cs) (sym ec) in
    rw (left, right) refl

none_left : (v : ℕ) (rs cs : List ℤ) → min (length rs) (length cs) ≡ 0 → coefficient_of v rs cs ≡ pos 0
none_left v [] cs e = refl
none_left v (r ∷ rs) [] e = refl
none_left v (r ∷ rs) (c ∷ cs) e = absurd (omega arith)

pub coefficient-end : (v : ℕ) (rs cs : List ℤ) (k : ℕ) → min (length rs) (length cs) ≤ k → coefficient_of v (drop k rs) (drop k cs) ≡ pos 0
coefficient-end v rs cs k e = none_left v (drop k rs) (drop k cs) (omega (arith, length-drop k rs, length-drop k cs))

-- how large a reference's own coefficient is
pub signed-size : (r c : ℤ) → unsigned_abs (signed_coefficient r c) ≡ unsigned_abs c
signed-size (pos i) c = refl
signed-size (negsuc i) c = omega (arith, ints)

-- what the table has of a variable, where one more term is put into it
merged-put : (f : ℕ → ℤ) (v w : ℕ) (before own new : ℤ) → before ≡ f w → new ≡ (if w == v then before +ℤ own else f v) → new ≡ (if w == v then own else pos 0) +ℤ f v
merged-put f v w before own new e h = elim (cases_eq w v) [
  | inl same ↦ (
      let P : ℕ → Type 0 = λ u. before ≡ f u in
      let own-is = subst P same e in
      let yes' : (w == v) ≡ true = grind (arith, nat_tests) in
      let a = h ∙ ap (λ b. if b then before +ℤ own else f v) yes' in
      let c = ap (λ b. if b then own else pos 0) yes' in
      omega (arith, ints)
      )
  | inr apart ↦ (
      let no' : (w == v) ≡ false = grind (arith, nat_tests) in
      let a = h ∙ ap (λ b. if b then before +ℤ own else f v) no' in
      let c = ap (λ b. if b then own else pos 0) no' in
      omega (arith, ints)
      )
]

pub merged-more : (rs cs : List ℤ) (k w v : ℕ) (f : ℕ → ℤ) (r x before own new : ℤ) → k < length rs → k < length cs → r ≡ get_or rs k (pos 0) → x ≡ get_or cs k (pos 0)
    → w ≡ variable_of r → own ≡ signed_coefficient r x → before ≡ f w → new ≡ (if w == v then before +ℤ own else f v)
    → f v +ℤ coefficient_of v (drop k rs) (drop k cs) ≡ coefficient_of v rs cs → new +ℤ coefficient_of v (drop (k + 1) rs) (drop (k + 1) cs) ≡ coefficient_of v rs cs
merged-more rs cs k w v f r x before own new p q er ex ew eo eb en h =
    let next = coefficient-next v rs cs k r x p q er ex in
    let put = merged-put f v w before own new eb en in
    let own-is = ap (λ (u : ℕ). if u == v then own else pos 0) ew ∙ ap (λ (z : ℤ). if variable_of r == v then z else pos 0) eo in
    omega (arith, ints)

if-size : (b : Bool) (own : ℤ) → unsigned_abs (if b then own else pos 0) ≤ unsigned_abs own
if-size true own = omega arith
if-size false own = omega arith

pub merged-size : (v w : ℕ) (f : ℕ → ℤ) (before own new : ℤ) (k : ℕ) → before ≡ f w → new ≡ (if w == v then before +ℤ own else f v) → unsigned_abs (f v) ≤ 2 ^ 63 * k → unsigned_abs own ≤ 2 ^ 63 → unsigned_abs new ≤ 2 ^ 63 * (k + 1)
merged-size v w f before own new k eb en l m =
    let put = merged-put f v w before own new eb en in
    let small = if-size (w == v) own in
    omega (arith, ints)

pub merged-fits : (old own : ℤ) (k n : ℕ) → unsigned_abs old ≤ 2 ^ 63 * k → unsigned_abs own ≤ 2 ^ 63 → k < n → n < 2 ^ 64 → FitsSigned w128 (old +ℤ own)
merged-fits old own k n l m h small = fits_signed_from_abs w128 (old +ℤ own) (let a : unsigned_abs (old +ℤ own) ≤ unsigned_abs old + unsigned_abs own = omega (arith, ints) in omega arith)

-- a value that is put at a key
pub put-value : (b : Bool) (x : ℤ) (o : Option ℤ) → unwrap_or (if b then Some x else o) (pos 0) ≡ (if b then x else unwrap_or o (pos 0))
put-value true x o = refl
put-value false x o = refl

ands : (a b c d : Bool) → a ≡ b → c ≡ d → (a && c) ≡ (b && d)
ands a b c d e f = ap (λ x. x && c) e ∙ ap (λ y. b && y) f

-- two tables of merged coefficients tell whether these are the same
pub merged-same : {S T : Type 0} (m : HashMap ℕ ℤ S) (n : HashMap ℕ ℤ T) (start end : LinearExpr) (rs : List ℤ) → HasCoefficientsOf m start → HasCoefficientsOf n end
    → list_all (λ r. int_eq (merged_coefficient m (variable_of r)) (merged_coefficient n (variable_of r))) rs ≡ have_same_coefficients start end rs
merged-same m n start end [] h k = refl
merged-same m n start end (r ∷ rs) h k =
    let v = variable_of r in
    ands (int_eq (merged_coefficient m v) (merged_coefficient n v)) (has_same_coefficient start end v) _ (have_same_coefficients start end rs)
    (ap (λ (z : ℤ). int_eq z (merged_coefficient n v)) (h v) ∙ ap (λ (z : ℤ). int_eq (coefficient_of v start.vars start.coeffs) z) (k v))
    (merged-same m n start end rs h k)

and-false : (a b : Bool) → b ≡ false → (a && b) ≡ false
and-false true b e = e
and-false false b e = refl

pub length-none : (start end : LinearExpr) → have_same_coefficients start end start.vars ≡ false → length_between start end ≡ None
length-none start end e = ap (λ b. if b && have_same_coefficients start end end.vars then Some (end.offset -ℤ start.offset) else None) e

pub length-no_end : (start end : LinearExpr) → have_same_coefficients start end end.vars ≡ false → length_between start end ≡ None
length-no_end start end e = ap (λ b. if b then Some (end.offset -ℤ start.offset) else None) (and-false (have_same_coefficients start end start.vars) (have_same_coefficients start end end.vars) e)

pub length-some : (start end : LinearExpr) → have_same_coefficients start end start.vars ≡ true → have_same_coefficients start end end.vars ≡ true → length_between start end ≡ Some (end.offset -ℤ start.offset)
length-some start end e f = ap (λ b. if b then Some (end.offset -ℤ start.offset) else None) (ands (have_same_coefficients start end start.vars) true (have_same_coefficients start end end.vars) true e f)

-- Lists that are made by number, and one more item of each.
use Rattle.std.specs.Prelude.{sum_by, filter}
use Rattle.std.specs.List.{range_with_len}
use Rattle.std.proofs.Common.{◌≡◌, ℕ, ◌+◌, ◌*◌, ◌<◌, ◌≤◌, Bool, true, false, cond, List, [], ◌∷◌, ◌++◌, length, map, get_or, arith, refl, sym, ap, subst, ◌∙◌, zero-add}
use Rattle.std.proofs.lemmas.List.{map_push, append-nil, append_assoc}
use Rattle.std.proofs.lemmas.List.Elements.{filter-append}
use Rattle.std.proofs.lemmas.List.FromFn.{map-range_with_len_more, length-range_with_len, get_or-range_with_len}
use Rattle.std.proofs.lemmas.List.Sums.{sum_by_push, sum_by-le, length-filter, count_by-le-length, get_or-le-sum_by}

-- one more number
map-same : (xs : List ℕ) → map (λ x. x) xs ≡ xs
map-same [] = refl
map-same (x ∷ xs) = ap (λ ys. x ∷ ys) (map-same xs)

pub first_more : (n : ℕ) → range_with_len 0 (n + 1) ≡ range_with_len 0 n ++ n ∷ []
first_more n =
    sym (map-same (range_with_len 0 (n + 1))) ∙ map-range_with_len_more (λ x. x) 0 n n (omega arith)
    ∙ ap (λ xs. xs ++ n ∷ []) (map-same (range_with_len 0 n))

-- one more item
pub made_more : {X : Type 0} (f : ℕ → X) (n : ℕ) (xs ys : List X) (x : X) → x ≡ f n → ys ≡ xs ++ map f (range_with_len 0 n) → ys ++ x ∷ [] ≡ xs ++ map f (range_with_len 0 (n + 1))
made_more f n xs ys x is e =
    ap (λ z. ys ++ z ∷ []) is ∙ ap (λ zs. zs ++ f n ∷ []) e ∙ append_assoc xs (map f (range_with_len 0 n)) (f n ∷ [])
    ∙ ap (λ zs. xs ++ zs) (sym (map-range_with_len_more f 0 n n (omega arith)))

-- one more number that passes, and one that does not
pub passes : (p : ℕ → Bool) (n : ℕ) → p n ≡ true → filter p (range_with_len 0 (n + 1)) ≡ filter p (range_with_len 0 n) ++ n ∷ []
passes p n is =
    ap (filter p) (first_more n) ∙ filter-append p (range_with_len 0 n) (n ∷ [])
    ∙ ap (λ b. filter p (range_with_len 0 n) ++ cond b (n ∷ []) []) is

pub fails : (p : ℕ → Bool) (n : ℕ) → p n ≡ false → filter p (range_with_len 0 (n + 1)) ≡ filter p (range_with_len 0 n)
fails p n is =
    ap (filter p) (first_more n) ∙ filter-append p (range_with_len 0 n) (n ∷ [])
    ∙ ap (λ b. filter p (range_with_len 0 n) ++ cond b (n ∷ []) []) is ∙ append-nil (filter p (range_with_len 0 n))

-- one more item, of a number that passes
pub kept_more : {X : Type 0} (p : ℕ → Bool) (f : ℕ → X) (n : ℕ) (xs ys : List X) (x : X) → p n ≡ true → x ≡ f n → ys ≡ xs ++ map f (filter p (range_with_len 0 n)) → ys ++ x ∷ [] ≡ xs ++ map f (filter p (range_with_len 0 (n + 1)))
kept_more p f n xs ys x pass is e =
    ap (λ z. ys ++ z ∷ []) is ∙ ap (λ zs. zs ++ f n ∷ []) e ∙ append_assoc xs (map f (filter p (range_with_len 0 n))) (f n ∷ [])
    ∙ ap (λ zs. xs ++ zs) (sym (ap (map f) (passes p n pass) ∙ map_push f (filter p (range_with_len 0 n)) n))

-- no more items, after a number that does not
pub kept_same : {X : Type 0} (p : ℕ → Bool) (f : ℕ → X) (n : ℕ) (xs ys : List X) → p n ≡ false → ys ≡ xs ++ map f (filter p (range_with_len 0 n)) → ys ≡ xs ++ map f (filter p (range_with_len 0 (n + 1)))
kept_same p f n xs ys is e = e ∙ ap (λ zs. xs ++ map f zs) (sym (fails p n is))

-- a sum of one more, and of terms that are at most so much
pub sum_more : (f : ℕ → ℕ) (n : ℕ) → sum_by f (range_with_len 0 (n + 1)) ≡ sum_by f (range_with_len 0 n) + f n
sum_more f n = ap (sum_by f) (first_more n) ∙ sum_by_push f (range_with_len 0 n) n

pub sum_small : (f : ℕ → ℕ) (most n : ℕ) → ((i : ℕ) → f i ≤ most) → sum_by f (range_with_len 0 n) ≤ n * most
sum_small f most n h =
    let le = sum_by-le f most (range_with_len 0 n) (λ k d lt. h (get_or (range_with_len 0 n) k d)) in
    subst (λ (long : ℕ). sum_by f (range_with_len 0 n) ≤ long * most) (length-range_with_len 0 n) le

pub term_below_sum : (f : ℕ → ℕ) (n i : ℕ) → i < n → f i ≤ sum_by f (range_with_len 0 n)
term_below_sum f n i lt =
    let le = get_or-le-sum_by f (range_with_len 0 n) i 0 (omega (arith, length-range_with_len 0 n)) in
    let at : get_or (range_with_len 0 n) i 0 ≡ i = get_or-range_with_len 0 n i 0 lt ∙ zero-add i in
    subst (λ (j : ℕ). f j ≤ sum_by f (range_with_len 0 n)) at le

-- so many pass at most
pub few_pass : (p : ℕ → Bool) (n : ℕ) → length (filter p (range_with_len 0 n)) ≤ n
few_pass p n = omega (arith, length-filter p (range_with_len 0 n), count_by-le-length p (range_with_len 0 n), length-range_with_len 0 n)

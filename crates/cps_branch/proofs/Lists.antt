-- Lists of one value, and lists that are written over.
use Rattle.std.proofs.Common.{ℕ, zero, suc, ◌≡◌, List, ◌++◌, length, take, drop, replicate, get_or, refl, ◌∙◌, arith}
use Rattle.std.proofs.lemmas.List.{take-append-le, take_all}

-- each place of a list of one value, and what would be read past its end, has it
pub alike : {A : Type 0} (n i : ℕ) (x : A) → get_or (replicate n x) i x ≡ x
alike zero i x = refl
alike (suc n) zero x = refl
alike (suc n) (suc i) x = alike n i x

-- a list that is written over by as many items is these items
pub refilled : {A : Type 0} (n : ℕ) (xs ys : List A) → n ≡ length xs → length ys ≡ length xs → take n (ys ++ drop (length ys) xs) ≡ ys
refilled n xs ys count same = take-append-le n ys (drop (length ys) xs) (omega arith) ∙ take_all n ys (omega arith)

-- Sums and counts over lists.
use Rattle.std.specs.Prelude.{ℕ, ◌+◌, ◌==◌, Bool, true, false, List, [], ◌∷◌, Option, Some, None}

abbrev pub total : {A : Type 0} → (A → ℕ) → List A → ℕ
total f [] = 0
total f (x ∷ xs) = f x + total f xs

abbrev pub one_if : Bool → ℕ
one_if true = 1
one_if false = 0

-- how many items of a list have this number
abbrev pub times : {A : Type 0} → (A → ℕ) → ℕ → List A → ℕ
times number n [] = 0
times number n (x ∷ xs) = one_if (number x == n) + times number n xs

abbrev pub one_if_some : ℕ → Option ℕ → ℕ
one_if_some n None = 0
one_if_some n (Some x) = one_if (x == n)

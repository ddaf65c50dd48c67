-- How far from 0 numbers and their products are, over plain bounds: for domains that are not those of a model's
-- variables.
use Rattle.std.specs.Prelude.{ℕ, ◌*◌, ◌≤◌, max, ℤ, unsigned_abs, List, [], ◌∷◌}
use Rattle.std.specs.List.{AllZip}

-- the greatest magnitude between two bounds
abbrev pub magnitude_between : ℤ → ℤ → ℕ
magnitude_between low high = max (unsigned_abs low) (unsigned_abs high)

-- the product of magnitudes, each taken as at least 1
abbrev pub product_of_magnitudes : List ℕ → ℕ
product_of_magnitudes [] = 1
product_of_magnitudes (m ∷ ms) = max 1 m * product_of_magnitudes ms

-- each number has at most its magnitude
abbrev pub AreOfMagnitudes : List ℤ → List ℕ → Type 0
AreOfMagnitudes ns ms = AllZip (λ n m. unsigned_abs n ≤ m) ns ms

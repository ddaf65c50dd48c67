-- Products of numbers of which magnitudes are known.
use Rattle.std.specs.Prelude.{max, unsigned_abs, map}
use Rattle.std.specs.List.{AllZip}
use Rattle.std.proofs.Common.{◌≡◌, ℕ, zero, suc, ◌*◌, ◌≤◌, ℤ, ◌≤ℤ◌, List, [], ◌∷◌, take, refl, ap, arith}
use Rattle.std.proofs.Math.Nat.{mul-le-mul, mul-le-mul_left}
use Rattle.std.proofs.lemmas.Int.{unsigned_abs-mul}
use Rattle.cps_model.specs.declared.model.LinearExpr.{LinearExpr}
use Rattle.cps_model.specs.declared.model.Variable.{Variable}
use Rattle.cps_model.specs.Arithmetic.{product}
use Rattle.cps_model.specs.Ranges.{magnitude_of_value}
use Rattle.cps_model.specs.KindRules.{product_reach}
use Rattle.cps_model.specs.Magnitudes.{magnitude_between, product_of_magnitudes, AreOfMagnitudes}
use Rattle.cps_model.proofs.Inside.{unsigned_abs-between}

pub unsigned_abs-magnitude : (low v high : ℤ) → low ≤ℤ v → v ≤ℤ high → unsigned_abs v ≤ magnitude_between low high
unsigned_abs-magnitude low v high p q = unsigned_abs-between low v high p q

-- the rule of products tests this product
pub product_reach-magnitudes : (vs : List Variable) (es : List LinearExpr) → product_reach vs es ≡ product_of_magnitudes (map (magnitude_of_value vs) es)
product_reach-magnitudes vs [] = refl
product_reach-magnitudes vs (e ∷ es) = ap (λ (n : ℕ). max 1 (magnitude_of_value vs e) * n) (product_reach-magnitudes vs es)

pub product_of_magnitudes-some : (ms : List ℕ) → 1 ≤ product_of_magnitudes ms
product_of_magnitudes-some [] = omega arith
product_of_magnitudes-some (m ∷ ms) =
    let rest = product_of_magnitudes-some ms in
    let more = mul-le-mul_left (max 1 m) rest in
    omega arith

-- the product of all numbers, and of each first part of them
pub product-magnitudes : (ns : List ℤ) (ms : List ℕ) (k : ℕ) → AreOfMagnitudes ns ms → unsigned_abs (product (take k ns)) ≤ product_of_magnitudes ms
product-magnitudes [] [] zero h = omega arith
product-magnitudes [] [] (suc k) h = omega arith
product-magnitudes [] (m ∷ ms) k h = absurd h
product-magnitudes (n ∷ ns) [] k h = absurd h
product-magnitudes (n ∷ ns) (m ∷ ms) zero h = product_of_magnitudes-some (m ∷ ms)
product-magnitudes (n ∷ ns) (m ∷ ms) (suc k) h =
    let size = h.0 in
    let near : unsigned_abs n ≤ max 1 m = omega arith in
    let more = mul-le-mul near (product-magnitudes ns ms k h.1) in
    let whole = unsigned_abs-mul n (product (take k ns)) in
    omega arith

-- less magnitudes have no greater product
pub product_of_magnitudes-less : (ms ns : List ℕ) → AllZip (λ m n. m ≤ n) ms ns → product_of_magnitudes ms ≤ product_of_magnitudes ns
product_of_magnitudes-less [] [] h = omega arith
product_of_magnitudes-less [] (n ∷ ns) h = absurd h
product_of_magnitudes-less (m ∷ ms) [] h = absurd h
product_of_magnitudes-less (m ∷ ms) (n ∷ ns) h =
    let size = h.0 in
    let near : max 1 m ≤ max 1 n = omega arith in
    mul-le-mul near (product_of_magnitudes-less ms ns h.1)

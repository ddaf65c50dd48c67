-- Numbers of 64 bits.
use Rattle.std.proofs.Common.{◌≡◌, ℕ, ℤ, ◌<◌, ◌^◌, true, sym, ap, ◌∙◌, arith, nat_eq, to_z, of_z, w64, unsigned_abs}
use Rattle.std.proofs.lemmas.Int.{ints}
use Rattle.std.proofs.lemmas.Bool.Decides.{nat_tests}

-- two that are stored alike are one
pub same_number : (x y : ℤ) → to_z w64 (of_z w64 x) ≡ x → to_z w64 (of_z w64 y) ≡ y → nat_eq (of_z w64 x) (of_z w64 y) ≡ true → x ≡ y
same_number x y p q e = sym p ∙ (ap (to_z w64) (equal (of_z w64 x) (of_z w64 y) e) ∙ q) where
  equal : (a b : ℕ) → nat_eq a b ≡ true → a ≡ b
  equal a b h = grind (arith, nat_tests)

pub small_number : (x : ℤ) → unsigned_abs x < 2 ^ 62 → to_z w64 (of_z w64 x) ≡ x
small_number x near = omega (arith, ints)

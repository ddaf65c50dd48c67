-- What tests of numbers that are read say, and what ends say of the values between them.
use lib.Signed.{lt_z, le_z}
use mir.Syntax.{w64}
use mir.Val.{to_z, of_z}
use Rattle.std.specs.Prelude.{FitsSigned, Result, Ok}
use Rattle.std.proofs.Common.{◌≡◌, ℕ, ℤ, pos, ◌+ℤ◌, ◌-ℤ◌, ◌≤ℤ◌, Bool, true, false, arith}
use Rattle.std.proofs.lemmas.Int.{ints, to_z-of_z}
use Rattle.cps_trail.specs.Trail.{Trail, IsInside}
use Rattle.cps_propagate.specs.Now.{IsOpenTo}
use Rattle.cps_propagate.specs.Strength.{IsHeld}

at_most_from : (a b : ℤ) → le_z a b ≡ true → a ≤ℤ b
at_most_from a b e = grind (arith, ints)

at_most_unless : (a b : ℤ) → lt_z a b ≡ false → b ≤ℤ a
at_most_unless a b e = grind (arith, ints)

pub read_at_most : (a b : ℤ) → FitsSigned w64 a → FitsSigned w64 b → le_z (to_z w64 (of_z w64 a)) (to_z w64 (of_z w64 b)) ≡ true → a ≤ℤ b
read_at_most a b fa fb e = at_most_from a b (rw (to_z-of_z w64 a fa, to_z-of_z w64 b fb) at e)

pub read_not_less : (a b : ℤ) → FitsSigned w64 a → FitsSigned w64 b → lt_z (to_z w64 (of_z w64 a)) (to_z w64 (of_z w64 b)) ≡ false → b ≤ℤ a
read_not_less a b fa fb e = at_most_unless a b (rw (to_z-of_z w64 a fa, to_z-of_z w64 b fb) at e)

-- the numbers beside one that a domain may have
pub above_fits : (v : ℤ) → IsInside v → FitsSigned w64 (v +ℤ pos 1)
above_fits v h = let a = h.low in let b = h.high in omega (arith, ints)

pub below_fits : (v : ℤ) → IsInside v → FitsSigned w64 (v -ℤ pos 1)
below_fits v h = let a = h.low in let b = h.high in omega (arith, ints)

pub down_up : (v : ℤ) → ((v -ℤ pos 1) +ℤ pos 1) ≡ v
down_up v = omega (arith, ints)

in_order : (a b c : ℤ) → a ≤ℤ b → b ≤ℤ c → a ≤ℤ c
in_order a b c p q = omega (arith, ints)

-- values between ends that an interval holds
pub held_by : (s : Trail) (i : ℕ) (low high a b : ℤ) → ((x : ℤ) → IsOpenTo s i x → a ≤ℤ x) → ((x : ℤ) → IsOpenTo s i x → x ≤ℤ b) → low ≤ℤ a → b ≤ℤ high → IsHeld s low high i
held_by s i low high a b least greatest p q = λ x o. (in_order low a x p (least x o), in_order x b high (greatest x o) q)

-- no is not yes
pub no_not_yes : {E : Type 0} (P : Type 0) → ◌≡◌ {A = Result Bool E} (Ok false) (Ok true) → P
no_not_yes P h = absurd (cc h)

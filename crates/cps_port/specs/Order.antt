-- Bounds in order. `Infinite` is greater than every value.
use Rattle.std.specs.Prelude.{ℕ, ◌+◌, ◌-◌, ◌<◌, ◌≤◌, ◌≡◌, ℤ, ◌≤ℤ◌, ◌<ℤ◌, ◌^◌, unsigned_abs, Option, Some, None}
use Rattle.std.specs.Int.{int_min, int_max}
use Rattle.cps_model.specs.declared.bound.Bound.{Bound}
use Rattle.cps_model.specs.declared.bound.Bound.TheVariants.{At, Infinite}

-- the one bound is at most the other
abbrev pub BoundLe : Bound → Bound → Type 0
BoundLe (At x) (At y) = x ≤ℤ y
BoundLe Infinite (At y) = ⊥
BoundLe b Infinite = Unit {0}

-- a value below a bound
abbrev pub IsBelow : ℤ → Bound → Type 0
IsBelow v (At z) = v <ℤ z
IsBelow v Infinite = Unit {0}

-- at most what a lower bound can be raised to
abbrev pub IsSmallBound : Bound → Type 0
IsSmallBound (At v) = unsigned_abs v < 2 ^ 62
IsSmallBound Infinite = Unit {0}

abbrev pub lesser : Bound → Bound → Bound
lesser (At x) (At y) = At (int_min x y)
lesser (At x) Infinite = At x
lesser Infinite b = b

abbrev pub greater : Bound → Bound → Bound
greater (At x) (At y) = At (int_max x y)
greater (At x) Infinite = Infinite
greater Infinite b = Infinite

-- the greatest one so far, after one more
abbrev pub raised_to : Option Bound → Bound → Option Bound
raised_to None b = Some b
raised_to (Some a) b = Some (greater a b)

-- the greater of a bound and the greatest one so far, if there is any
abbrev pub raised_above : Option Bound → Bound → Bound
raised_above None b = b
raised_above (Some a) b = greater a b

abbrev pub greater_of : Option Bound → Option Bound → Option Bound
greater_of a None = a
greater_of a (Some b) = raised_to a b

-- a bound is at least the greatest one so far, if there is any
abbrev pub IsNoLower : Option Bound → Bound → Type 0
IsNoLower None b = Unit {0}
IsNoLower (Some a) b = BoundLe a b

-- A count rose by one. A count of 64 bits stands still at its last value, and one that is not stored never does.
pub record Rises (old new : ℕ) : Type 0 where
  pub rose : old < 2 ^ 64 - 1 → new ≡ old + 1
  pub never_falls : old ≤ new

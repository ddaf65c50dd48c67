-- What two lists of intervals share.
use Rattle.std.specs.Prelude.{ℤ, ◌≡◌, ◌≤ℤ◌, ◌⊎◌, false, negsuc, ◌&&◌, ◌-◌, ◌^◌, ◌++◌, [], ◌∷◌, List}
use Rattle.cps_domain.specs.Window.{within, is_among, RisesFrom}

-- an interval has the numbers that lie in both of two others, and has some
pub record IsShared (p q r : ℤ × ℤ) : Type 0 where
  pub ordered : r.0 ≤ℤ r.1
  pub values : (x : ℤ) → within x r ≡ (within x p && within x q)

-- no number lies in both intervals and the list stays, or what they share is added at its end
abbrev pub AddsShared : ℤ × ℤ → ℤ × ℤ → List (ℤ × ℤ) → List (ℤ × ℤ) → Type 0
AddsShared p q old new =
    ((new ≡ old) × ((x : ℤ) → (within x p && within x q) ≡ false))
    ⊎ ((r : ℤ × ℤ) × (IsShared p q r × (new ≡ old ++ (r ∷ []))))

-- the list rises and has the numbers that lie in both of two others
pub record AreShared (ps qs ms : List (ℤ × ℤ)) : Type 0 where
  pub rising : RisesFrom (negsuc (2 ^ 62 - 1)) ms
  pub values : (x : ℤ) → is_among ms x ≡ (is_among ps x && is_among qs x)

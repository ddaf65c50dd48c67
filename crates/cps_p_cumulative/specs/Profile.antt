-- The profile of compulsory parts: how much is surely demanded at a time.
use Rattle.std.specs.Prelude.{◌≡◌, ℕ, ◌+◌, ◌<◌, ◌≤◌, ◌^◌, ℤ, ◌≤ℤ◌, ◌<ℤ◌, ◌⊎◌, int_le, int_lt, Bool, ◌&&◌, if◌then◌else◌, List, All, length, take, slice_index_or}
use Rattle.std.specs.List.{sum_by}
use Rattle.cps_p_cumulative.specs.declared.part.Part.{Part}
use Rattle.cps_p_cumulative.specs.declared.judge.Ended.{Ended}

-- whether a part covers a time: from its first time on, and before its end
abbrev pub covers : ℤ → Part → Bool
covers t p = int_le p.from t && int_lt t p.to

-- what it demands at a time
abbrev pub at : ℤ → Part → ℕ
at t p = if covers t p then p.demand else 0

-- what all parts demand at a time
abbrev pub height : ℤ → List Part → ℕ
height t ps = sum_by (at t) ps

-- a part ends no earlier than it begins, and demands less than 2 ^ 63
pub record AreParts (ps : List Part) : Type 0 where
  pub ordered : All (λ p. p.from ≤ℤ p.to) ps
  pub small : All (λ p. p.demand < 2 ^ 63) ps

-- at no time the parts demand more than the capacity
pub record FitsCapacity (ps : List Part) (capacity : ℕ) : Type 0 where
  pub room : (t : ℤ) → height t ps ≤ capacity

-- at this time they do
pub record IsOverCapacity (ps : List Part) (capacity : ℕ) (t : ℤ) : Type 0 where
  pub over : capacity < height t ps

-- the first ends that a sweep passed lie at a time or before
pub record IsEndedBy (ends : List Part) (e : Ended) (t : ℤ) : Type 0 where
  pub within : e.place ≤ length ends
  pub passed : (j : ℕ) (d : Part) → j < e.place → (slice_index_or ends j d).to ≤ℤ t

-- what is demanded falls by what the passed ends demanded
pub record PassesEnds (ends : List Part) (old new : Ended) : Type 0 where
  pub level : new.level + sum_by (λ p. p.demand) (take new.place ends)
      ≡ old.level + sum_by (λ p. p.demand) (take old.place ends)
  pub less : new.level ≤ old.level

-- the end that comes next, if there is one, is later than a time, or demands more than the level
pub record StopsAt (ends : List Part) (e : Ended) (t : ℤ) : Type 0 where
  pub next : (d : Part) → e.place < length ends
      → (t <ℤ (slice_index_or ends e.place d).to) ⊎ (e.level < (slice_index_or ends e.place d).demand)

-- what began up to a place exceeds what ended by the time there by no more than the capacity
pub record IsSweptAt (starts ends : List Part) (capacity k : ℕ) : Type 0 where
  pub count : ℕ
  pub passed : (j : ℕ) (d e : Part) → j < count → (slice_index_or ends j d).to ≤ℤ (slice_index_or starts k e).from
  pub sum : sum_by (λ p. p.demand) (take (k + 1) starts) ≤ sum_by (λ p. p.demand) (take count ends) + capacity

-- and so at each place before one
abbrev pub AreSweptTo : List Part → List Part → ℕ → ℕ → Type 0
AreSweptTo starts ends capacity n = (k : ℕ) → k < n → IsSweptAt starts ends capacity k

pub record IsSwept (starts ends : List Part) (capacity : ℕ) : Type 0 where
  pub all : AreSweptTo starts ends capacity (length starts)

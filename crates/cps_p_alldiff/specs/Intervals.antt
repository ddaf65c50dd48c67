-- Intervals of whole numbers: full ones and crowded ones, and the ends of what subjects may be now.
use Rattle.std.specs.Prelude.{ℕ, ◌+◌, ◌<◌, ◌≤◌, ℤ, ◌-ℤ◌, ◌≤ℤ◌, int_le, unsigned_abs, Bool, ◌&&◌, List, length, slice_index_or}
use Rattle.std.specs.List.{AllZip, count_by}
use Rattle.cps_trail.specs.Trail.{Trail, IsInside}
use Rattle.cps_propagate.specs.Now.{IsOpenTo}
use Rattle.cps_p_alldiff.specs.declared.interval.Interval.{Interval}

-- whether a number lies in an interval
abbrev pub lies_in : Interval → ℤ → Bool
lies_in h x = int_le h.low x && int_le x h.high

-- whether it has all numbers of another
abbrev pub covers : Interval → Interval → Bool
covers h e = int_le h.low e.low && int_le e.high h.high

-- how many of these intervals it covers
abbrev pub covered : Interval → List Interval → ℕ
covered h es = count_by (covers h) es

-- how many numbers it has
abbrev pub numbers : Interval → ℕ
numbers h = unsigned_abs (h.high -ℤ h.low) + 1

-- both ends are values that a domain may have
pub record IsInRange (h : Interval) : Type 0 where
  pub low : IsInside h.low
  pub high : IsInside h.high

-- and the first is not greater than the second
pub record AreEnds (e : Interval) : Type 0 where
  pub range : IsInRange e
  pub ordered : e.low ≤ℤ e.high

-- as many are covered as there are numbers
pub record IsFull (es : List Interval) (h : Interval) : Type 0 where
  pub ends : AreEnds h
  pub full : numbers h ≤ covered h es

-- more are
pub record IsOverfull (es : List Interval) (h : Interval) : Type 0 where
  pub ends : AreEnds h
  pub crowded : numbers h < covered h es

-- no interval covers more of these than it has numbers
pub record IsRoomy (es : List Interval) : Type 0 where
  pub room : (h : Interval) → h.low ≤ℤ h.high → covered h es ≤ numbers h

-- no interval from one number to the greatest of one of these does
pub record IsRoomyFrom (es : List Interval) (low : ℤ) : Type 0 where
  pub room : (k : ℕ) (d : Interval) → k < length es → low ≤ℤ (slice_index_or es k d).high
      → covered (record { low = low; high = (slice_index_or es k d).high }) es ≤ numbers
      (record { low = low; high = (slice_index_or es k d).high })

-- each value that a subject may have now lies between these ends
pub record IsEnclosed (s : Trail) (i : ℕ) (e : Interval) : Type 0 where
  pub least : (x : ℤ) → IsOpenTo s i x → e.low ≤ℤ x
  pub greatest : (x : ℤ) → IsOpenTo s i x → x ≤ℤ e.high

-- and the ends are such values
pub record IsTightInterval (s : Trail) (i : ℕ) (e : Interval) : Type 0 where
  pub bounded : IsEnclosed s i e
  pub low : IsOpenTo s i e.low
  pub high : IsOpenTo s i e.high
  pub range : IsInRange e

abbrev pub AreEnclosed : Trail → List ℕ → List Interval → Type 0
AreEnclosed s is es = AllZip (IsEnclosed s) is es

abbrev pub AreTightIntervals : Trail → List ℕ → List Interval → Type 0
AreTightIntervals s is es = AllZip (IsTightInterval s) is es

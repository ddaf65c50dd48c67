-- What propagators remember of domains from visit to visit, and of how many entries of a store that is so.
use Rattle.std.specs.Prelude.{◌≡◌, ◌≢◌, true, ℕ, take, ◌-◌, ◌<◌, ◌≤◌, ℤ, List, [], length, slice_index_or, All}
use Rattle.cps_trail.specs.Trail.{Domains, Entry, Trail, admits}
use Rattle.cps_trail.specs.Changes.{IsHull}

-- the ends of a subject's values, as they were read where the first `since` entries had the last one about it
pub record Remembered : Type 0 where
  pub subject : ℕ
  pub low : ℤ
  pub high : ℤ
  pub since : ℕ

-- what a propagator remembers, as it was after a store's first `count` entries
pub record Memory : Type 0 where
  pub ends : List Remembered
  pub count : ℕ

-- the memory of a propagator that remembers nothing
abbrev pub no_memory : Memory
no_memory = record { ends = []; count = 0 }

-- the ends are those after the first k entries, and none of these is about the subject since they were read
pub record IsRecalled (s : Trail) (k : ℕ) (r : Remembered) : Type 0 where
  pub hull : IsHull (admits s.first (take k s.entries) r.subject) (r.low, r.high)
  pub after : (j : ℕ) (d : Entry) → r.since ≤ j → j < k → (slice_index_or s.entries j d).atom.subject ≢ r.subject

-- each end is a value of the subject's first domain
pub record IsOfFirst (first : Domains) (r : Remembered) : Type 0 where
  pub low : admits first [] r.subject r.low ≡ true
  pub high : admits first [] r.subject r.high ≡ true

-- A memory is right about a store's first n entries: what was read no later than after the first k of them, and was
-- right then, is what they leave.
pub record Recalls (m : Memory) (s : Trail) (n : ℕ) : Type 0 where
  pub first : All (IsOfFirst s.first) m.ends
  pub here : (k : ℕ) → k ≤ m.count → k ≤ n → All (λ r. r.since ≤ k → IsRecalled s k r) m.ends

-- For each entry that was seen the turn in which it came, and for each propagator, by number, the turn of its last
-- visit; 0 where that is forgotten.
pub record Seen : Type 0 where
  pub stamps : List ℕ
  pub visits : List ℕ

-- the first n entries are those that stood at a propagator's last visit
pub record Stand (seen : Seen) (number n : ℕ) : Type 0 where
  pub visited : 0 < slice_index_or seen.visits number 0
  pub within : n ≤ length seen.stamps
  pub since : 0 < n → slice_index_or seen.stamps (n - 1) 0 ≤ slice_index_or seen.visits number 0

-- what an engine's propagators remember, and what it saw
pub record Recall : Type 0 where
  pub memories : List Memory
  pub seen : Seen

-- each memory is right about those of a store's first n entries that stood at its propagator's last visit
abbrev pub AllRecall : Recall → Trail → ℕ → Type 0
AllRecall r s n = (number k : ℕ) (d : Memory) → number < length r.memories → k ≤ n → Stand r.seen number k
    → Recalls (slice_index_or r.memories number d) s k

-- each memory is right about those of a store's entries that stood at its propagator's last visit
pub record RecallNow (r : Recall) (s : Trail) : Type 0 where
  pub within : length r.seen.stamps ≤ length s.entries
  pub each : (number k : ℕ) (d : Memory) → number < length r.memories → Stand r.seen number k
      → Recalls (slice_index_or r.memories number d) s k

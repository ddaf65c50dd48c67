-- What a long sum remembers.
use Rattle.std.specs.Prelude.{◌≡◌, ◌⊎◌, ℕ, ◌<◌, ◌≤◌, true, false, if◌then◌else◌, List, [], ◌∷◌, length, slice_index_or, slice_set, All, Contains}
use Rattle.cps_instance.specs.declared.term.Term.{Term}
use Rattle.cps_instance.specs.declared.task.Task.{Task}
use Rattle.cps_trail.specs.Trail.{Trail}
use Rattle.cps_propagate.specs.Recalling.{Remembered, Memory, no_memory, IsRecalled, IsOfFirst, Recalls}
use Rattle.cps_p_linear.specs.declared.ends.Ends.{Ends}
use Rattle.cps_p_linear.specs.declared.gauge.Gauge.{Gauge}
use Rattle.cps_p_linear.specs.Ends.{AreSumEnds, IsNoWider}
use Rattle.cps_p_linear.specs.Chains.{IsIndexed}

-- what contracts see of the propagator of a sum: its task, and what it remembers
pub record Sum : Type 0 where
  pub task : Task
  pub memory : Memory

-- what was read of each term's subject
abbrev pub remembered : List Term → List Ends → List ℕ → List Remembered
remembered [] es ns = []
remembered (t ∷ ts) [] ns = []
remembered (t ∷ ts) (e ∷ es) [] = []
remembered (t ∷ ts) (e ∷ es) (n ∷ ns) = record { subject = t.subject; low = e.low; high = e.high; since = n } ∷ remembered ts es ns

abbrev pub read_of : List Term → Gauge → List Remembered
read_of ts g = remembered ts g.values.items g.since.items

abbrev pub memory_of : List Term → Gauge → Memory
memory_of ts g = if g.is_read then record { ends = read_of ts g; count = g.count } else no_memory

-- the parts of a gauge belong together: the sum is that of the ends that were read, whether or not these are still right
pub record IsGauge (ts : List Term) (g : Gauge) : Type 0 where
  pub values : length g.values.items ≡ length ts
  pub since : length g.since.items ≡ length ts
  pub ends : AreSumEnds ts g.values.items g.spread.sum
  pub flags : length g.is_wide.items ≡ length ts
  pub wide : All (λ k. k < length ts) g.wide.items
  pub listed : (j : ℕ) → j < length ts → slice_index_or g.is_wide.items j false ≡ true → Contains g.wide.items j
  pub widths : (j : ℕ) (t : Term) (e : Ends) → j < length ts → slice_index_or g.is_wide.items j true ≡ false
      → IsNoWider g.spread.widest (slice_index_or ts j t) (slice_index_or g.values.items j e)
  pub indexed : IsIndexed ts g.places

-- and what was read was read by then
pub record IsWhole (ts : List Term) (g : Gauge) : Type 0 where
  pub gauge : IsGauge ts g
  pub newest : All (λ r. r.since ≤ g.newest) (read_of ts g)

abbrev pub IsGaugeOf : List Term → Gauge → Type 0
IsGaugeOf ts g = g.is_read ≡ true → IsWhole ts g

-- a memory is right about all entries of a store, and was read after no more
pub record RecallsNow (m : Memory) (s : Trail) : Type 0 where
  pub count : m.count ≤ length s.entries
  pub recalls : Recalls m s (length s.entries)

-- the ends of each term were read, from the store's first domains
pub record IsHeld (s : Trail) (ts : List Term) (g : Gauge) : Type 0 where
  pub gauge : IsGauge ts g
  pub first : All (IsOfFirst s.first) (read_of ts g)

-- what was read is right about the first k entries, and was read after no more
pub record IsReadBy (s : Trail) (k : ℕ) (r : Remembered) : Type 0 where
  pub recalled : IsRecalled s k r
  pub since : r.since ≤ k

-- what was read is right now, or was after the first k entries
abbrev pub IsDue : Trail → ℕ → Remembered → Type 0
IsDue s k r = IsReadBy s (length s.entries) r ⊎ IsReadBy s k r

-- all that was read is right now
pub record IsFresh (s : Trail) (ts : List Term) (g : Gauge) : Type 0 where
  pub is_read : g.is_read ≡ true
  pub count : g.count ≡ length s.entries
  pub whole : IsWhole ts g
  pub now : All (IsReadBy s (length s.entries)) (read_of ts g)

-- one term was read anew, and nothing else changed
pub record Renews (s : Trail) (ts : List Term) (old new : Gauge) (place : ℕ) : Type 0 where
  pub held : IsHeld s ts new
  pub is_read : new.is_read ≡ old.is_read
  pub places : new.places ≡ old.places
  pub now : Remembered
  pub subject : (d : Term) → now.subject ≡ (slice_index_or ts place d).subject
  pub right : IsReadBy s (length s.entries) now
  pub read : read_of ts new ≡ slice_set (read_of ts old) place now

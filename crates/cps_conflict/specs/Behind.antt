-- By which entries atoms became false, and to which of them reasons lead from a conflict.
use Rattle.std.specs.Prelude.{ℕ, ◌+◌, ◌<◌, ℤ, ◌≡◌, ◌≢◌, true, false, List, slice_index_or}
use Rattle.std.specs.List.{All, Contains}
use Rattle.cps_literal.specs.declared.atom.Atom.{Atom}
use Rattle.cps_literal.specs.Truth.{meets}
use Rattle.cps_trail.specs.Trail.{Trail, Entry, IsFalseFrom}
use Rattle.cps_conflict.specs.Conflicts.{Reasons}

-- both atoms are about one subject, and no value that meets the one meets the other
pub record RulesOut (s t : Atom) : Type 0 where
  pub subject : s.subject ≡ t.subject
  pub never : (x : ℤ) → meets s.op s.value x ≡ true → meets t.op t.value x ≡ false

-- An entry is one by which an atom became false, with the first `count` entries: one about the atom's subject. Where
-- the last of these entries rules the atom out by itself, it is that one alone.
pub record IsBehind (s : Trail) (t : Atom) (k : ℕ) : Type 0 where
  pub count : ℕ
  pub falls : IsFalseFrom s t count
  pub before : k < count
  pub about : (d : Entry) → (slice_index_or s.entries k d).atom.subject ≡ t.subject
  pub alone : (last : ℕ) (d : Entry) → count ≡ last + 1 → RulesOut (slice_index_or s.entries last d).atom t → k ≡ last

-- Reasons lead from a conflict to an entry by way of one level alone: the entry is behind an atom of the conflict, or
-- behind another atom of a reason of an entry of that level to which they lead so.
pub data IsResolvedTo (reasons : Reasons) (s : Trail) (level : ℕ) (conflict : List Atom) : ℕ → Type 0 where
  at_once : (t : Atom) (k : ℕ) → Contains conflict t → IsBehind s t k → IsResolvedTo reasons s level conflict k
  by_reason : (j k : ℕ) (reason : List Atom) (u : Atom) → IsResolvedTo reasons s level conflict j
      → ((d : Entry) → (slice_index_or s.entries j d).level ≡ level) → reasons j reason
      → Contains reason u → ((d : Entry) → u ≢ (slice_index_or s.entries j d).atom) → IsBehind s u k
      → IsResolvedTo reasons s level conflict k

-- an atom fell with an entry to which reasons lead from a conflict
pub record FellBy (reasons : Reasons) (s : Trail) (level : ℕ) (conflict : List Atom) (u : Atom) : Type 0 where
  pub place : ℕ
  pub fell : IsFalseFrom s u (place + 1)
  pub resolved : IsResolvedTo reasons s level conflict place

-- A clause comes of a conflict: each of its atoms fell with an entry to which reasons lead from the conflict, by way of
-- entries of the conflict's level.
pub record ComesOfConflict (reasons : Reasons) (s : Trail) (level : ℕ) (conflict clause : List Atom) : Type 0 where
  pub each : All (FellBy reasons s level conflict) clause

-- What the search for redundant atoms knows of the entries whose reasons it asked for.
use Rattle.std.specs.Prelude.{ℕ, ◌≤◌, ◌<◌, ℤ, ◌≡◌, ◌⊎◌, true, false, List, length, take, slice_index_or}
use Rattle.std.specs.List.{All, Any}
use Rattle.cps_literal.specs.declared.atom.Atom.{Atom}
use Rattle.cps_literal.specs.Truth.{atom_holds}
use Rattle.cps_trail.specs.Trail.{Trail}
use Rattle.cps_conflict.specs.declared.resolvent.Fallen.{Fallen}
use Rattle.cps_conflict.specs.declared.minimiser.Node.{Node}
use Rattle.cps_conflict.specs.declared.minimiser.Minimiser.{Minimiser}
use Rattle.cps_conflict.specs.declared.minimiser.Look.{Look}
use Rattle.cps_conflict.specs.declared.minimiser.Look.TheVariants.{Back, On, Away}
use Rattle.cps_conflict.specs.Drafts.{IsBacked}

-- an atom is true at a list of values, and was false after so many entries
pub record IsTrueBy (a : List ℤ) (latest : ℕ) (f : Fallen) : Type 0 where
  pub holds : atom_holds a f.atom ≡ true
  pub by : f.from ≤ latest

-- at a list of values the one atom is true, or one of the others is that were false after so many entries
pub record IsBack (a : List ℤ) (earlier : List Fallen) (t : Atom) (latest : ℕ) : Type 0 where
  pub some : (atom_holds a t ≡ true) ⊎ Any (IsTrueBy a latest) earlier

-- or one is from a place to another of those that are still to look at
pub record IsPendingAt (a : List ℤ) (pending : List Fallen) (next end : ℕ) : Type 0 where
  pub place : ℕ
  pub from : next ≤ place
  pub below : place < end
  pub within : place < length pending
  pub holds : (d : Fallen) → atom_holds a (slice_index_or pending place d).atom ≡ true

-- where an entry's atom is not true at a list of values, that is so
abbrev pub IsNodeAt : List ℤ → List Fallen → Atom → List Fallen → Node → Type 0
IsNodeAt a earlier t pending n = n.failed ≡ false → atom_holds a n.denied ≡ true
    → IsPendingAt a pending n.next n.end ⊎ IsBack a earlier t n.latest

abbrev pub AreNodesAt : List Fallen → List ℤ → Minimiser → Type 0
AreNodesAt earlier a m = All (IsNodeAt a earlier m.assert m.pending.items) m.nodes.items

-- it is wherever the constraint holds
pub record AreNodes (constraint : List ℤ → Type 0) (s : Trail) (earlier : List Fallen) (m : Minimiser) : Type 0 where
  pub at : (a : List ℤ) → constraint a → IsBacked s a → AreNodesAt earlier a m

-- a step keeps it at each list of values
pub record Carries (old new : Minimiser) : Type 0 where
  pub assert : new.assert ≡ old.assert
  pub at : (earlier : List Fallen) (a : List ℤ) → AreNodesAt earlier a old → AreNodesAt earlier a new

-- the atoms of a node up to a place lead back
pub record PassesAtoms (m : Minimiser) (n : Node) (to : ℕ × ℕ) : Type 0 where
  pub within : to.0 ≤ n.end
  pub later : n.latest ≤ to.1
  pub at : (earlier : List Fallen) (a : List ℤ) → AreNodesAt earlier a m → IsPendingAt a m.pending.items n.next to.0
      → IsBack a earlier m.assert to.1

-- a list has more at its end
pub record ExtendsPending (old new : List Fallen) : Type 0 where
  pub longer : length old ≤ length new
  pub same : (k : ℕ) (d : Fallen) → k < length old → slice_index_or new k d ≡ slice_index_or old k d

-- where an atom is true that leads back, it leads to such atoms
abbrev pub IsLook : Trail → List Fallen → Atom → Atom → Look → Type 0
IsLook s earlier t u (Back latest) = (a : List ℤ) → IsBacked s a → atom_holds a u ≡ true → IsBack a earlier t latest
IsLook s earlier t u (On from) = Unit {0}
IsLook s earlier t u Away = Unit {0}

-- an atom is the entry's, or where it is true it leads to one of those that were added or back
abbrev pub IsTraced : Trail → List Fallen → Minimiser → Atom → List Fallen → ℕ → Atom → Type 0
IsTraced s earlier m entry new latest u = (u ≡ entry)
    ⊎ ((a : List ℤ) → IsBacked s a → atom_holds a u ≡ true
    → IsPendingAt a new (length m.pending.items) (length new) ⊎ IsBack a earlier m.assert latest)

pub record Traces (s : Trail) (earlier : List Fallen) (m : Minimiser) (entry : Atom) (new : List Fallen) (latest : ℕ) (reason : List Atom) : Type 0 where
  pub each : All (IsTraced s earlier m entry new latest) reason

-- how far a reason has been traced
pub record TraceSoFar (s : Trail) (earlier : List Fallen) (entry : Atom) (old m : Minimiser) (latest i : ℕ) : Type 0 where
  pub assert : m.assert ≡ old.assert
  pub nodes : m.nodes ≡ old.nodes
  pub reason : m.reason ≡ old.reason
  pub grows : ExtendsPending old.pending.items m.pending.items
  pub traces : Traces s earlier old entry m.pending.items latest (take i old.reason.items)

-- What is counted of the arcs at the nodes, and what it gives.
use Rattle.std.specs.Prelude.{◌≡◌, ◌≢◌, ◌⊎◌, ℕ, ◌+◌, ◌<◌, ℤ, pos, ◌≤ℤ◌}
use Rattle.std.specs.Prelude.{List, [], ◌∷◌, ◌++◌, length, slice_index, slice_index_or, All}
use Rattle.cps_literal.specs.declared.atom.Atom.{Atom}
use Rattle.cps_literal.specs.declared.atom.Truth.{Truth}
use Rattle.cps_literal.specs.declared.atom.Truth.TheVariants.{Yes, No, Undecided}
use Rattle.cps_instance.specs.Tasks.{atom_subjects}
use Rattle.cps_trail.specs.Trail.{Trail, IsTrueNow, IsFalseNow}
use Rattle.cps_rule.specs.declared.rule.Narrowing.{Narrowing}
use Rattle.cps_rule.specs.Rules.{IsGiven}
use Rattle.cps_p_circuit.specs.declared.degrees.Degree.{Degree}
use Rattle.cps_p_circuit.specs.declared.degrees.Degrees.{Degrees}
use Rattle.cps_p_circuit.specs.declared.graph.Graph.{Graph}
use Rattle.cps_p_circuit.specs.Showing.{body_of}

-- what is known of an atom, and that not more is known
abbrev pub IsState : Trail → Atom → Truth → Type 0
IsState s u Yes = IsTrueNow s u × (IsFalseNow s u → ⊥)
IsState s u No = IsFalseNow s u × (IsTrueNow s u → ⊥)
IsState s u Undecided = (IsTrueNow s u → ⊥) × (IsFalseNow s u → ⊥)

abbrev pub AreStatesUpTo : Trail → List Atom → ℕ → List Truth → Type 0
AreStatesUpTo s literals n states =
    (k : ℕ) (d : Atom) → k < n → IsState s (slice_index_or literals k d) (slice_index_or states k No)

-- so it is of each literal
pub record AreStates (s : Trail) (literals : List Atom) (states : List Truth) : Type 0 where
  pub same_length : length states ≡ length literals
  pub at : AreStatesUpTo s literals (length literals) states

-- one of the first arcs has an end and is in a state
pub record IsSeenAt (ends : List ℕ) (states : List Truth) (v n : ℕ) (state : Truth) (k : ℕ) : Type 0 where
  pub within : k < n
  pub at : slice_index ends k ≡ v
  pub is : slice_index_or states k No ≡ state

-- a node's degree tells of the first arcs: each number is 1 more than an arc's
pub record IsCounted (ends : List ℕ) (states : List Truth) (v n : ℕ) (d : Degree) : Type 0 where
  pub taken : (t : ℕ) → d.taken ≡ t + 1 → IsSeenAt ends states v n Yes t
  pub second : (t : ℕ) → d.second ≡ t + 1 → IsSeenAt ends states v n Yes t × (d.taken ≢ 0) × (d.taken ≢ t + 1)
  pub undecided : (t : ℕ) → d.undecided ≡ t + 1 → IsSeenAt ends states v n Undecided t
  pub other : (t : ℕ) → d.other ≡ t + 1 → IsSeenAt ends states v n Undecided t × (d.undecided ≢ 0) × (d.undecided ≢ t + 1)
  pub each_taken : (k : ℕ) → IsSeenAt ends states v n Yes k → (d.taken ≡ k + 1) ⊎ (d.second ≢ 0)
  pub each_undecided : (k : ℕ) → IsSeenAt ends states v n Undecided k → (d.undecided ≡ k + 1) ⊎ (d.other ≢ 0)

abbrev pub nothing : Degree
nothing = record { taken = 0; second = 0; undecided = 0; other = 0 }

abbrev pub degree_at : List Degree → ℕ → Degree
degree_at degrees v = slice_index_or degrees v nothing

-- so do the degrees of all nodes
pub record AreCounted (ends : List ℕ) (states : List Truth) (nodes n : ℕ) (degrees : List Degree) : Type 0 where
  pub room : length degrees ≡ nodes
  pub each : (v : ℕ) → v < nodes → IsCounted ends states v n (degree_at degrees v)

-- on both sides
pub record AreAllCounted (graph : Graph) (d : Degrees) : Type 0 where
  pub out : AreCounted graph.from.items d.states.items (length graph.nodes.items) (length d.states.items) d.out.items
  pub into : AreCounted graph.to.items d.states.items (length graph.nodes.items) (length d.states.items) d.into.items

-- two arcs are taken, or none may be
abbrev pub IsLost : Degree → Type 0
IsLost d = (d.second ≢ 0) ⊎ ((d.taken ≡ 0) × (d.undecided ≡ 0))

-- neither is so
pub record IsKept (d : Degree) : Type 0 where
  pub once : d.second ≡ 0
  pub some : d.taken ≡ 0 → d.undecided ≢ 0

abbrev pub AreKept : List Degree → Type 0
AreKept degrees = (v : ℕ) → v < length degrees → IsKept (degree_at degrees v)

abbrev pub HasLost : List Degree → ℕ → Type 0
HasLost degrees v = (v < length degrees) × IsLost (degree_at degrees v)

pub record AreAllKept (d : Degrees) : Type 0 where
  pub out : AreKept d.out.items
  pub into : AreKept d.into.items

abbrev pub HasLostOn : Degrees → Type 0
HasLostOn d = ((v : ℕ) × HasLost d.out.items v) ⊎ ((v : ℕ) × HasLost d.into.items v)

-- atoms about the numbers 0 and 1
abbrev pub AreNarrow : List Atom → Type 0
AreNarrow literals = All (λ u. (pos 0 ≤ℤ u.value) × (u.value ≤ℤ pos 1)) literals

-- what is added is given wherever these are the states
abbrev pub AddsGiven : Graph → List Atom → List Truth → List Narrowing → List Narrowing → Type 0
AddsGiven graph literals states old new = (s : Trail) → AreStates s literals states
    → All (λ i. i < length s.first) (atom_subjects literals)
    → All (λ n. IsGiven (body_of graph literals) s n.target) old
    → All (λ n. IsGiven (body_of graph literals) s n.target) new

abbrev pub AreTrue : Trail → List Narrowing → Type 0
AreTrue s ns = All (λ n. IsTrueNow s n.target) ns

-- an arc has a taken one at an end
abbrev pub IsBeside : Graph → Degrees → ℕ → Type 0
IsBeside graph d k = ((degree_at d.out.items (slice_index graph.from.items k)).taken ≢ 0)
    ⊎ ((degree_at d.into.items (slice_index graph.to.items k)).taken ≢ 0)

-- and is open
abbrev pub IsOpenBeside : Graph → Degrees → ℕ → Type 0
IsOpenBeside graph d k = (slice_index_or d.states.items k No ≡ Undecided) × IsBeside graph d k

abbrev pub IsFalseArc : Trail → List Atom → ℕ → Type 0
IsFalseArc s literals k = (d : Atom) → IsFalseNow s (slice_index_or literals k d)

abbrev pub IsTrueArc : Trail → List Atom → ℕ → Type 0
IsTrueArc s literals k = (d : Atom) → IsTrueNow s (slice_index_or literals k d)

-- where what was found is true, an open arc that is beside a taken one is not taken
pub record LeavesArc (graph : Graph) (literals : List Atom) (d : Degrees) (k : ℕ) (old new : List Narrowing) : Type 0 where
  pub before : (s : Trail) → AreTrue s new → AreTrue s old
  pub left : (s : Trail) → AreTrue s new → IsOpenBeside graph d k → IsFalseArc s literals k

-- so it is with the first arcs
pub record LeavesOthers (graph : Graph) (literals : List Atom) (d : Degrees) (n : ℕ) (old new : List Narrowing) : Type 0 where
  pub before : (s : Trail) → AreTrue s new → AreTrue s old
  pub left : (s : Trail) → AreTrue s new → (k : ℕ) → k < n → IsOpenBeside graph d k → IsFalseArc s literals k

-- an arc is the last open one of a node that has no taken one
pub record IsLastOf (d : Degree) (t : ℕ) : Type 0 where
  pub none : d.taken ≡ 0
  pub alone : d.other ≡ 0
  pub is : d.undecided ≡ t + 1

-- a number is 1 more than such an arc's, or there is none
pub record IsLastOpen (d : Degree) (by : ℕ) : Type 0 where
  pub is : (t : ℕ) → by ≡ t + 1 → IsLastOf d t
  pub every : (t : ℕ) → IsLastOf d t → by ≡ t + 1

-- an arc's literal is added, if there is an arc
pub record AddsArc (literals : List Atom) (by : ℕ) (old new : List Narrowing) : Type 0 where
  pub none : by ≡ 0 → new ≡ old
  pub some : (t : ℕ) → by ≡ t + 1
      → (n : Narrowing) × ((d : Atom) → n.target ≡ slice_index_or literals t d) × (new ≡ old ++ n ∷ [])

-- where what was found is true, the last open arcs of the first nodes are taken
pub record LeavesLast (literals : List Atom) (d : Degrees) (n : ℕ) (old new : List Narrowing) : Type 0 where
  pub before : (s : Trail) → AreTrue s new → AreTrue s old
  pub out : (s : Trail) → AreTrue s new → (v t : ℕ) → v < n → IsLastOf (degree_at d.out.items v) t
      → IsTrueArc s literals t
  pub into : (s : Trail) → AreTrue s new → (v t : ℕ) → v < n → IsLastOf (degree_at d.into.items v) t
      → IsTrueArc s literals t

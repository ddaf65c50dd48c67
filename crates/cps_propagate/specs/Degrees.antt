-- What rest asks of a circuit: one arc into each node and one out of it, as far as degrees tell.
use Rattle.std.specs.Prelude.{◌≡◌, ◌≢◌, ◌⊎◌, ℕ, ◌<◌, ℤ, List, ◌++◌, length, slice_index_or, Contains}
use Rattle.cps_literal.specs.declared.atom.Atom.{Atom}
use Rattle.cps_trail.specs.Trail.{Trail, IsTrueNow, IsFalseNow}

-- an arc has a node for its end, on the side of these ends
pub record IsArcAt (ends : List ℤ) (literals : List Atom) (node : ℤ) (k : ℕ) : Type 0 where
  pub within : k < length literals
  pub is : (d : ℤ) → slice_index_or ends k d ≡ node

-- an arc is taken, or it is not
abbrev pub IsTaken : Trail → List Atom → ℕ → Type 0
IsTaken s literals k = (d : Atom) → IsTrueNow s (slice_index_or literals k d)

abbrev pub IsUntaken : Trail → List Atom → ℕ → Type 0
IsUntaken s literals k = (d : Atom) → IsFalseNow s (slice_index_or literals k d)

-- two arcs at a node are taken
pub record HasTwoArcs (s : Trail) (ends : List ℤ) (literals : List Atom) (node : ℤ) : Type 0 where
  pub i : ℕ
  pub j : ℕ
  pub apart : i ≢ j
  pub first : IsArcAt ends literals node i
  pub second : IsArcAt ends literals node j
  pub one : IsTaken s literals i
  pub other : IsTaken s literals j

-- none that may be taken is there
abbrev pub HasNoArc : Trail → List ℤ → List Atom → ℤ → Type 0
HasNoArc s ends literals node = (k : ℕ) → IsArcAt ends literals node k → IsUntaken s literals k

-- a node cannot have exactly one arc on a side
pub record IsNodeLost (s : Trail) (ends nodes : List ℤ) (literals : List Atom) : Type 0 where
  pub node : ℤ
  pub listed : Contains nodes node
  pub lost : HasTwoArcs s ends literals node ⊎ HasNoArc s ends literals node

-- so it is with one of a circuit's nodes, which are all ends of arcs
abbrev pub HasLostNode : Trail → List ℤ → List ℤ → List Atom → Type 0
HasLostNode s tails heads literals =
    IsNodeLost s tails (tails ++ heads) literals ⊎ IsNodeLost s heads (tails ++ heads) literals

-- On one side of each node some arc may be taken. Beside one that is taken the others are not, and the last that may be
-- taken is.
pub record HasOneArcEach (s : Trail) (ends nodes : List ℤ) (literals : List Atom) : Type 0 where
  pub some : (node : ℤ) → Contains nodes node → HasNoArc s ends literals node → ⊥
  pub at_most : (node : ℤ) (i j : ℕ) → i ≢ j → IsArcAt ends literals node i → IsArcAt ends literals node j
      → IsTaken s literals i → IsUntaken s literals j
  pub at_least : (node : ℤ) (k : ℕ) → IsArcAt ends literals node k
      → ((j : ℕ) → j ≢ k → IsArcAt ends literals node j → IsUntaken s literals j) → IsTaken s literals k

-- so on both sides
pub record HasDegrees (s : Trail) (tails heads : List ℤ) (literals : List Atom) : Type 0 where
  pub out : HasOneArcEach s tails (tails ++ heads) literals
  pub into : HasOneArcEach s heads (tails ++ heads) literals

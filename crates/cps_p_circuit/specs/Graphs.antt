-- Arcs between nodes, which are named by their places in a list of their numbers.
use Rattle.std.specs.Prelude.{◌≡◌, if◌then◌else◌, ℕ, ◌<◌, ℤ, pos, Bool}
use Rattle.std.specs.Prelude.{List, [], ◌∷◌, ◌++◌, map, length, slice_index, slice_index_or, Contains}
use Rattle.cps_model.specs.declared.parts.Arc.{Arc}
use Rattle.cps_model.specs.Circuits.{IsCircuit}

-- the number of the node at a place
abbrev pub number : List ℤ → ℕ → ℤ
number nodes v = slice_index_or nodes v (pos 0)

-- the arc at an index
abbrev pub arc_at : List ℤ → List ℕ → List ℕ → ℕ → Arc
arc_at nodes from to k = record { tail = number nodes (slice_index from k); head = number nodes (slice_index to k) }

-- the arcs that are taken
abbrev pub arcs_by : List ℤ → List ℕ → List ℕ → List Bool → List Arc
arcs_by nodes (a ∷ fs) (b ∷ hs) (t ∷ ts) =
    if t then record { tail = number nodes a; head = number nodes b } ∷ arcs_by nodes fs hs ts
    else arcs_by nodes fs hs ts
arcs_by nodes [] hs ts = []
arcs_by nodes (a ∷ fs) [] ts = []
arcs_by nodes (a ∷ fs) (b ∷ hs) [] = []

-- the taken arcs are a circuit
abbrev pub IsRound : List ℤ → List ℕ → List ℕ → List Bool → Type 0
IsRound nodes from to taken = IsCircuit (map (number nodes) from ++ map (number nodes) to) (arcs_by nodes from to taken)

-- different places have different numbers, arcs are between nodes, and each node is an end of one
pub record IsNumbering (nodes : List ℤ) (from to : List ℕ) : Type 0 where
  pub apart : (i j : ℕ) → i < length nodes → j < length nodes → number nodes i ≡ number nodes j → i ≡ j
  pub tails : (k : ℕ) → k < length from → slice_index from k < length nodes
  pub heads : (k : ℕ) → k < length to → slice_index to k < length nodes
  pub listed : (v : ℕ) → v < length nodes
      → (Contains (map (number nodes) from ++ map (number nodes) to) (number nodes v) → ⊥) → ⊥

-- What some arcs being taken and others not leaves no circuit.
use Rattle.std.specs.Prelude.{◌≡◌, ◌≢◌, ◌⊎◌, ℕ, ◌-◌, ◌≤◌, ◌<◌, ℤ, Bool, true, false}
use Rattle.std.specs.Prelude.{List, slice_index, slice_index_or, All, Contains}
use Rattle.cps_p_circuit.specs.declared.clash.Sign.{Sign}
use Rattle.cps_p_circuit.specs.declared.graph.Graph.{Graph}
use Rattle.cps_p_circuit.specs.Graphs.{IsRound}

abbrev pub taking : ℕ → Sign
taking k = record { arc = k; holds = true }

abbrev pub leaving : ℕ → Sign
leaving k = record { arc = k; holds = false }

abbrev pub IsSignMet : List Bool → Sign → Type 0
IsSignMet taken p = slice_index_or taken p.arc false ≡ p.holds

-- no taken arcs that meet the signs are a circuit
pub record IsClash (nodes : List ℤ) (from to : List ℕ) (used : List Sign) : Type 0 where
  pub none : (taken : List Bool) → All (IsSignMet taken) used → IsRound nodes from to taken → ⊥

abbrev pub IsClashOf : Graph → List Sign → Type 0
IsClashOf graph used = IsClash graph.nodes.items graph.from.items graph.to.items used

-- what a list has, another has
abbrev pub GrowsSigns : List Sign → List Sign → Type 0
GrowsSigns old new = (p : Sign) → Contains old p → Contains new p

-- two arcs with one end, both taken
pub record IsClashingPair (ends : List ℕ) (arcs i j : ℕ) (used : List Sign) : Type 0 where
  pub apart : i ≢ j
  pub first : i < arcs
  pub second : j < arcs
  pub same : slice_index ends i ≡ slice_index ends j
  pub one : Contains used (taking i)
  pub other : Contains used (taking j)

-- no arc with a node for its end is taken
pub record IsDeserted (ends : List ℕ) (arcs node : ℕ) (used : List Sign) : Type 0 where
  pub each : (j : ℕ) → j < arcs → slice_index ends j ≡ node → Contains used (leaving j)

-- An arc's tail is surely on the circuit: the arc is taken and no loop, or no loop there is taken.
pub record IsOnTour (from to : List ℕ) (arcs k : ℕ) (used : List Sign) : Type 0 where
  pub within : k < arcs
  pub sure : ((slice_index from k ≢ slice_index to k) × Contains used (taking k))
      ⊎ ((j : ℕ) → j < arcs → slice_index from j ≡ slice_index from k → slice_index to j ≡ slice_index from k
      → Contains used (leaving j))

-- the arc that is taken from a marked node leads to a marked node
pub record IsArcChosen (from to : List ℕ) (arcs : ℕ) (via : List ℕ) (used : List Sign) (v k : ℕ) : Type 0 where
  pub within : k < arcs
  pub origin : slice_index from k ≡ v
  pub goal : 1 ≤ slice_index via (slice_index to k)
  pub taken : Contains used (taking k)

-- Nodes are marked by 1, or by 2 and an arc that is taken from there to a marked node.
abbrev pub AreChosen : List ℕ → List ℕ → ℕ → List ℕ → List Sign → ℕ → Type 0
AreChosen from to arcs via used n =
    (v : ℕ) → v < n → 2 ≤ slice_index via v → IsArcChosen from to arcs via used v (slice_index via v - 2)

-- no arc is taken that leads out of the nodes that are marked by 1
abbrev pub NoneLeadsOut : List ℕ → List ℕ → List ℕ → List Sign → ℕ → Type 0
NoneLeadsOut from to via used n =
    (k : ℕ) → k < n → slice_index via (slice_index from k) ≡ 1 → slice_index via (slice_index to k) ≡ 0
    → Contains used (leaving k)

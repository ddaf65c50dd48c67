-- Walks over arcs or nodes: one more that adds no sign, and all of them.
use Rattle.std.specs.Prelude.{Contains, slice_index}
use Rattle.std.proofs.Common.{◌≡◌, ◌≢◌, inr, ℕ, ◌+◌, ◌-◌, ◌<◌, ◌≤◌, List, [], ◌∷◌, ◌++◌, sym, ◌∙◌, below_more, arith}
use Rattle.cps_p_circuit.specs.declared.clash.Sign.{Sign}
use Rattle.cps_p_circuit.specs.Clashes.{leaving, IsDeserted, IsOnTour, IsArcChosen, AreChosen, NoneLeadsOut}
use Rattle.cps_p_circuit.proofs.Clashes.{lifted, pushed, least}

-- one arc more that has an end, one that has another, and all of them
pub end_more : (ends : List ℕ) (old new : List Sign) (node j : ℕ) → new ≡ old ++ leaving j ∷ [] → ((m : ℕ) → m < j → slice_index ends m ≡ node → Contains old (leaving m)) → (m : ℕ) → m < j + 1 → slice_index ends m ≡ node → Contains new (leaving m)
end_more ends old new node j e h = below_more (λ (m : ℕ). slice_index ends m ≡ node → Contains new (leaving m)) j (λ m l p. lifted old new (leaving j) (leaving m) e (h m l p)) (λ _. pushed old new (leaving j) e)

pub end_less : (ends : List ℕ) (used : List Sign) (node j : ℕ) → slice_index ends j ≢ node → ((m : ℕ) → m < j → slice_index ends m ≡ node → Contains used (leaving m)) → (m : ℕ) → m < j + 1 → slice_index ends m ≡ node → Contains used (leaving m)
end_less ends used node j other h = below_more (λ (m : ℕ). slice_index ends m ≡ node → Contains used (leaving m)) j h (λ e. absurd (other e))

pub deserted : (ends : List ℕ) (arcs node j : ℕ) (used : List Sign) → arcs ≤ j → ((m : ℕ) → m < j → slice_index ends m ≡ node → Contains used (leaving m)) → IsDeserted ends arcs node used
deserted ends arcs node j used past h = record { each = λ m l e. h m (omega arith) e }

-- one arc more that is no loop at a node, and all of them
pub stay_less : (from to : List ℕ) (used : List Sign) (node j : ℕ) → (slice_index from j ≡ node → slice_index to j ≡ node → ⊥) → ((m : ℕ) → m < j → slice_index from m ≡ node → slice_index to m ≡ node → Contains used (leaving m)) → (m : ℕ) → m < j + 1 → slice_index from m ≡ node → slice_index to m ≡ node → Contains used (leaving m)
stay_less from to used node j other h = below_more (λ (m : ℕ). slice_index from m ≡ node → slice_index to m ≡ node → Contains used (leaving m)) j h (λ p q. absurd (other p q))

pub stayed : (from to : List ℕ) (used : List Sign) (k node j : ℕ) → k < least from to → node ≡ slice_index from k → least from to ≤ j → ((m : ℕ) → m < j → slice_index from m ≡ node → slice_index to m ≡ node → Contains used (leaving m)) → IsOnTour from to (least from to) k used
stayed from to used k node j within is past h = record { within = within; sure = inr (λ m l p q. h m (omega arith) (p ∙ sym is) (q ∙ sym is)) }

-- one arc more that does not lead out, and all of them
pub left_less : (from to via : List ℕ) (used : List Sign) (k : ℕ) → (slice_index via (slice_index from k) ≡ 1 → slice_index via (slice_index to k) ≡ 0 → ⊥) → NoneLeadsOut from to via used k → NoneLeadsOut from to via used (k + 1)
left_less from to via used k other h = below_more (λ (m : ℕ). slice_index via (slice_index from m) ≡ 1 → slice_index via (slice_index to m) ≡ 0 → Contains used (leaving m)) k h (λ p q. absurd (other p q))

pub left_all : (from to via : List ℕ) (used : List Sign) (n k : ℕ) → n ≤ k → NoneLeadsOut from to via used k → NoneLeadsOut from to via used n
left_all from to via used n k past h = λ m l. h m (omega arith)

-- one node more that is not marked by an arc, and all of them
pub chosen_less : (from to : List ℕ) (arcs : ℕ) (via : List ℕ) (used : List Sign) (v : ℕ) → slice_index via v < 2 → AreChosen from to arcs via used v → AreChosen from to arcs via used (v + 1)
chosen_less from to arcs via used v low h = below_more (λ (w : ℕ). 2 ≤ slice_index via w → IsArcChosen from to arcs via used w (slice_index via w - 2)) v h (λ high. absurd (omega arith))

pub chosen_all : (from to : List ℕ) (arcs : ℕ) (via : List ℕ) (used : List Sign) (n v : ℕ) → n ≤ v → AreChosen from to arcs via used v → AreChosen from to arcs via used n
chosen_all from to arcs via used n v past h = λ w l. h w (omega arith)

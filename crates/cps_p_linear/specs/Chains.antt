-- The chains in which the places of a sum's terms stand, by the remainders of their subjects.
use Rattle.std.specs.Prelude.{◌≡◌, ℕ, ◌+◌, ◌<◌, ◌≤◌, ◌%◌, List, length, slice_index_or}
use Rattle.cps_instance.specs.declared.term.Term.{Term}
use Rattle.cps_p_linear.specs.declared.places.Places.{Places}

-- the remainder of the subject of the term at a place
abbrev pub remainder_at : List Term → ℕ → ℕ → Term → ℕ
remainder_at ts size j d = (slice_index_or ts j d).subject % size

-- The first n places stand in chains: each head is one more than the last place with its remainder, and each link one
-- more than the place before with the same one; 0 where there is none.
pub record AreChained (ts : List Term) (size : ℕ) (heads nexts : List ℕ) (n : ℕ) : Type 0 where
  pub heads_within : (h : ℕ) → slice_index_or heads h 0 ≤ n
  pub head : (j : ℕ) (d : Term) → j < n → j < slice_index_or heads (remainder_at ts size j d) 0
  pub head_of : (h c : ℕ) (d : Term) → slice_index_or heads h 0 ≡ c + 1 → remainder_at ts size c d ≡ h
  pub links_within : (p : ℕ) → p < n → slice_index_or nexts p 0 ≤ p
  pub link : (p j : ℕ) (d : Term) → p < n → j < p → remainder_at ts size j d ≡ remainder_at ts size p d
      → j < slice_index_or nexts p 0
  pub link_of : (p c : ℕ) (d : Term) → p < n → slice_index_or nexts p 0 ≡ c + 1
      → remainder_at ts size c d ≡ remainder_at ts size p d

-- all places of a sum's terms
pub record IsIndexed (ts : List Term) (places : Places) : Type 0 where
  pub some : 0 < length places.heads.items
  pub count : length places.nexts.items ≡ length ts
  pub chained : AreChained ts (length places.heads.items) places.heads.items places.nexts.items (length ts)

-- the place below this number, if it is not 0, is one whose subject has the same remainder as a subject
pub record IsOnChain (ts : List Term) (places : Places) (subject above : ℕ) : Type 0 where
  pub within : above ≤ length ts
  pub same : (c : ℕ) (d : Term) → above ≡ c + 1 → remainder_at ts (length places.heads.items) c d ≡ subject % length places.heads.items

-- no term between two places is about a subject
abbrev pub NoneBetween : List Term → ℕ → ℕ → ℕ → Type 0
NoneBetween ts subject from to = (j : ℕ) (d : Term) → from ≤ j → j < to → (slice_index_or ts j d).subject ≡ subject → ⊥

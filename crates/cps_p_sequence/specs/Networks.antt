-- An automaton whose states have numbers: its steps, and which states are marked.
use Rattle.std.specs.Prelude.{◌≡◌, ℕ, ◌<◌, ℤ, pos, Bool, true, false, List, length, slice_index_or, All, Contains}
use Rattle.cps_model.specs.declared.parts.Transition.{Transition}
use Rattle.cps_instance.specs.declared.task.Body.{Body}
use Rattle.cps_instance.specs.declared.task.Body.TheVariants.{Automaton}
use Rattle.cps_p_sequence.specs.declared.states.Step.{Step}

-- the state of a number
abbrev pub state_at : List ℤ → ℕ → ℤ
state_at states q = slice_index_or states q (pos 0)

-- a number is that of a state
pub record IsNumberOf (states : List ℤ) (state : ℤ) (q : ℕ) : Type 0 where
  pub inside : q < length states
  pub is : state_at states q ≡ state

-- the transition that a step is
abbrev pub named : List ℤ → Step → Transition
named states t = record { tail = state_at states t.tail; head = state_at states t.head; label = t.label }

-- a step leads between states with numbers below a count
pub record IsStepWithin (count : ℕ) (t : Step) : Type 0 where
  pub tail : t.tail < count
  pub head : t.head < count

-- a state is marked
abbrev pub IsMarked : List Bool → ℕ → Type 0
IsMarked marks q = slice_index_or marks q false ≡ true

-- the states that are listed are marked, and no others, so far
pub record AreFinals (finals states : List ℤ) (n : ℕ) (last : List Bool) : Type 0 where
  pub size : length last ≡ length states
  pub listed : (q : ℕ) → IsMarked last q → Contains finals (state_at states q)
  pub marked : (k q : ℕ) → k < n → k < length finals → q < length states
      → state_at states q ≡ slice_index_or finals k (pos 0) → IsMarked last q

-- the steps are transitions by numbers of their states, which differ
pub record IsNetwork (raw : List Transition) (finals : List ℤ) (start : ℤ) (states : List ℤ) (first : ℕ) (last : List Bool) (steps : List Step) : Type 0 where
  pub within : All (IsStepWithin (length last)) steps
  pub given : (t : Step) → Contains steps t → Contains raw (named states t)
  pub numbered : (r : Transition) → Contains raw r → (t : Step) × Contains steps t × (named states t ≡ r)
  pub distinct : (i j : ℕ) → i < length last → j < length last → state_at states i ≡ state_at states j → i ≡ j
  pub begin : first < length last
  pub start_is : state_at states first ≡ start
  pub listed : (q : ℕ) → IsMarked last q → Contains finals (state_at states q)
  pub marked : (q : ℕ) → q < length last → Contains finals (state_at states q) → IsMarked last q

-- whether a body is an automaton
abbrev pub is_automaton : Body → Bool
is_automaton (Automaton start finals tails heads labels exprs) = true
is_automaton _ = false

-- Where the labels of a list of values lead beside facts, layer by layer.
use Rattle.std.specs.Prelude.{◌≡◌, ◌<◌, ℕ, zero, suc, ℤ, Bool, Option, List, [], ◌∷◌, length, slice_index_or, Contains}
use Rattle.cps_literal.specs.declared.atom.Atom.{Atom}
use Rattle.cps_literal.specs.declared.atom.Op.TheVariants.{Le, Ge}
use Rattle.cps_literal.specs.Truth.{value_at}
use Rattle.cps_trail.specs.Trail.{Trail}
use Rattle.cps_propagate.specs.Reasons.{SpeaksOf}
use Rattle.cps_rule.specs.Rules.{AreFacts, AllTrueAt}
use Rattle.cps_p_sequence.specs.declared.states.Step.{Step}
use Rattle.cps_p_sequence.specs.declared.cuts.Limits.{Limits}
use Rattle.cps_p_sequence.specs.Networks.{IsMarked}
use Rattle.cps_p_sequence.specs.Facts.{MeetsBound}
use Rattle.cps_rule.specs.Facts.{Grows, Denied}

-- a subject's value cannot be a label, wherever the facts are true and the atom is false
pub record IsOut (goal : Option Atom) (us : List Atom) (i : ℕ) (label : ℤ) : Type 0 where
  pub at : (xs : List ℤ) → AllTrueAt xs us → Denied goal xs → value_at xs i ≡ label → ⊥

-- a subject's value lies between limits wherever the facts are true
pub record IsLimited (us : List Atom) (i : ℕ) (limits : Limits) : Type 0 where
  pub low : (xs : List ℤ) → AllTrueAt xs us → MeetsBound Ge limits.low (value_at xs i)
  pub high : (xs : List ℤ) → AllTrueAt xs us → MeetsBound Le limits.high (value_at xs i)

-- the first labels of a list of values lead from the first state to a state
abbrev pub LeadsToState : List ℤ → List Step → ℕ → List ℕ → ℕ → ℕ → Type 0
LeadsToState xs steps first is zero q = q ≡ first
LeadsToState xs steps first is (suc n) q = (t : Step) × Contains steps t × (t.head ≡ q)
    × (t.label ≡ value_at xs (slice_index_or is n 0)) × LeadsToState xs steps first is n t.tail

-- by the first n steps: where the one with a subject's value as its label begins in a marked state, it ends in one; the
-- facts have grown
pub record Comes (s : Trail) (goal : Option Atom) (i : ℕ) (steps : List Step) (n : ℕ) (tails heads : List Bool) (old new : List Atom) : Type 0 where
  pub size : length heads ≡ length tails
  pub grows : Grows s (i ∷ []) old new
  pub all : (xs : List ℤ) → AllTrueAt xs new → Denied goal xs → (k : ℕ) (d : Step) → k < n → k < length steps
      → (slice_index_or steps k d).label ≡ value_at xs i → IsMarked tails (slice_index_or steps k d).tail
      → IsMarked heads (slice_index_or steps k d).head

-- each state to which the first n labels of values can lead beside facts about their subjects is marked
pub record AreCome (s : Trail) (goal : Option Atom) (steps : List Step) (first count : ℕ) (is : List ℕ) (n : ℕ) (us : List Atom) (marks : List Bool) : Type 0 where
  pub size : length marks ≡ count
  pub facts : AreFacts s us
  pub speaks : SpeaksOf is us
  pub all : (xs : List ℤ) → AllTrueAt xs us → Denied goal xs → (q : ℕ) → LeadsToState xs steps first is n q → IsMarked marks q

-- no values at which the facts, all about their subjects, are true and the atom is false lead to a last state
pub record IsCut (s : Trail) (goal : Option Atom) (steps : List Step) (first : ℕ) (last : List Bool) (is : List ℕ) (us : List Atom) : Type 0 where
  pub facts : AreFacts s us
  pub speaks : SpeaksOf is us
  pub none : (xs : List ℤ) → AllTrueAt xs us → Denied goal xs → (q : ℕ) → LeadsToState xs steps first is (length is) q
      → IsMarked last q → ⊥

-- Where the runs of an automaton may go, position by position.
use Rattle.std.specs.Prelude.{◌≡◌, ℕ, zero, suc, ◌+◌, ◌<◌, ℤ, pos, ◌≤ℤ◌, Bool, true, false, List, [], ◌∷◌, ◌++◌, length, slice_index_or, drop, All, Contains}
use Rattle.cps_literal.specs.Truth.{value_at}
use Rattle.cps_instance.specs.declared.task.Body.{Body}
use Rattle.cps_instance.specs.Tasks.{HoldsBody}
use Rattle.cps_trail.specs.Trail.{Trail, IsAdmitted, IsTrueNow}
use Rattle.cps_propagate.specs.Now.{IsOpenTo, IsEndNow}
use Rattle.cps_propagate.specs.Strength.{IsNarrowAt}
use Rattle.cps_rule.specs.declared.rule.Narrowing.{Narrowing}
use Rattle.cps_rule.specs.Rules.{IsGiven}
use Rattle.cps_p_sequence.specs.declared.states.Step.{Step}
use Rattle.cps_p_sequence.specs.Networks.{IsMarked}

-- from a state some run over these subjects leads to a last one
abbrev pub CanEnd : Trail → List Step → List Bool → List ℕ → ℕ → Type 0
CanEnd s steps last [] q = IsMarked last q
CanEnd s steps last (i ∷ is) q = (t : Step) × Contains steps t × (t.tail ≡ q) × IsOpenTo s i t.label
    × CanEnd s steps last is t.head

-- some run over the first so many subjects leads to a state
abbrev pub CanReach : Trail → List Step → ℕ → List ℕ → ℕ → ℕ → Type 0
CanReach s steps first is zero q = q ≡ first
CanReach s steps first is (suc n) q = (t : Step) × Contains steps t × (t.head ≡ q)
    × IsOpenTo s (slice_index_or is n 0) t.label × CanReach s steps first is n t.tail

-- the marked states are those from which a run may end, and those that it may reach
pub record AreEnding (s : Trail) (steps : List Step) (last : List Bool) (is : List ℕ) (marks : List Bool) : Type 0 where
  pub size : length marks ≡ length last
  pub ends : (q : ℕ) → IsMarked marks q → CanEnd s steps last is q
  pub all : (q : ℕ) → CanEnd s steps last is q → IsMarked marks q

pub record AreReached (s : Trail) (steps : List Step) (first count : ℕ) (is : List ℕ) (n : ℕ) (marks : List Bool) : Type 0 where
  pub size : length marks ≡ count
  pub reached : (q : ℕ) → IsMarked marks q → CanReach s steps first is n q
  pub all : (q : ℕ) → CanReach s steps first is n q → IsMarked marks q

-- one row of marks after another: for each subject but the first one, and so on, from which states a run may end; the
-- last row comes first
abbrev pub AreRows : Trail → List Step → List Bool → List ℕ → List Bool → Type 0
AreRows s steps last [] rows = rows ≡ []
AreRows s steps last (i ∷ is) rows = (below : List Bool) × (row : List Bool) × (rows ≡ below ++ row)
    × AreEnding s steps last is row × AreRows s steps last is below

-- by the first n steps: where an open one leads to a marked state, its tail is marked
pub record AreTails (s : Trail) (i : ℕ) (steps : List Step) (n : ℕ) (heads tails : List Bool) : Type 0 where
  pub size : length tails ≡ length heads
  pub all : (k : ℕ) (d : Step) → k < n → k < length steps → IsOpenTo s i (slice_index_or steps k d).label
      → IsMarked heads (slice_index_or steps k d).head → IsMarked tails (slice_index_or steps k d).tail
  pub from : (q : ℕ) → IsMarked tails q
      → (t : Step) × Contains steps t × (t.tail ≡ q) × IsOpenTo s i t.label × IsMarked heads t.head

-- the other way
pub record AreHeads (s : Trail) (i : ℕ) (steps : List Step) (n : ℕ) (tails heads : List Bool) : Type 0 where
  pub size : length heads ≡ length tails
  pub all : (k : ℕ) (d : Step) → k < n → k < length steps → IsOpenTo s i (slice_index_or steps k d).label
      → IsMarked tails (slice_index_or steps k d).tail → IsMarked heads (slice_index_or steps k d).head
  pub from : (q : ℕ) → IsMarked heads q
      → (t : Step) × Contains steps t × (t.head ≡ q) × IsOpenTo s i t.label × IsMarked tails t.tail

-- an open step by a label leads from a marked state to a marked one
abbrev pub IsLedByLabel : Trail → ℕ → List Step → List Bool → List Bool → ℤ → Type 0
IsLedByLabel s i steps tails heads v = (t : Step) × Contains steps t × (t.label ≡ v) × IsOpenTo s i v × IsMarked tails t.tail
    × IsMarked heads t.head

-- so far, the labels of such steps
pub record AreLabels (s : Trail) (i : ℕ) (steps : List Step) (n : ℕ) (tails heads : List Bool) (labels : List ℤ) : Type 0 where
  pub all : (k : ℕ) (d : Step) → k < n → k < length steps → IsOpenTo s i (slice_index_or steps k d).label
      → IsMarked tails (slice_index_or steps k d).tail → IsMarked heads (slice_index_or steps k d).head
      → Contains labels (slice_index_or steps k d).label
  pub led : (v : ℤ) → Contains labels v → IsLedByLabel s i steps tails heads v

-- a run may have a label at a position
abbrev pub IsAlive : Trail → List Step → ℕ → List Bool → List ℕ → ℕ → ℤ → Type 0
IsAlive s steps first last is k v =
    (t : Step) × Contains steps t × (t.label ≡ v) × IsOpenTo s (slice_index_or is k 0) v
    × CanReach s steps first is k t.tail × CanEnd s steps last (drop (k + 1) is) t.head

-- wherever the body holds, a subject has one of these values
pub record HasLabels (b : Body) (s : Trail) (i : ℕ) (labels : List ℤ) : Type 0 where
  pub at : (xs : List ℤ) → IsAdmitted s.first s.entries xs → HoldsBody b xs → Contains labels (value_at xs i)

-- wherever the body holds, the values are labels of a run
pub record IsFollowed (b : Body) (s : Trail) (steps : List Step) (first : ℕ) (last : List Bool) (is : List ℕ) : Type 0 where
  pub whole : (xs : List ℤ) → IsAdmitted s.first s.entries xs → HoldsBody b xs → CanEnd s steps last is first
  pub at : (k : ℕ) → k < length is → (xs : List ℤ) → IsAdmitted s.first s.entries xs → HoldsBody b xs
      → IsAlive s steps first last is k (value_at xs (slice_index_or is k 0))

-- each of these atoms is given by the body, and is true now
abbrev pub AllGiven : Body → Trail → List Narrowing → Type 0
AllGiven b s found = All (λ n. IsGiven b s n.target) found

abbrev pub AllTargetsTrue : Trail → List Narrowing → Type 0
AllTargetsTrue s found = All (λ n. IsTrueNow s n.target) found

-- at each of the first n positions the least and the greatest value are labels of a run, and so is each value that is
-- the label of a step and, where they are among few numbers, each value
pub record AreEndsAlive (s : Trail) (steps : List Step) (first : ℕ) (last : List Bool) (is : List ℕ) (n : ℕ) : Type 0 where
  pub at : (k : ℕ) (v : ℤ) → k < n → k < length is → IsEndNow s (slice_index_or is k 0) v
      → IsAlive s steps first last is k v
  pub labels : (k : ℕ) (t : Step) → k < n → k < length is → Contains steps t
      → IsOpenTo s (slice_index_or is k 0) t.label → IsAlive s steps first last is k t.label
  pub values : (k : ℕ) (v : ℤ) → k < n → k < length is → IsNarrowAt s (slice_index_or is k 0)
      → IsOpenTo s (slice_index_or is k 0) v → IsAlive s steps first last is k v

-- what is found at the first n positions
pub record AreFound (s : Trail) (steps : List Step) (first : ℕ) (last : List Bool) (is : List ℕ) (n : ℕ) (found : List Narrowing) : Type 0 where
  pub given : (b : Body) → IsFollowed b s steps first last is → AllGiven b s found
  pub ends : AllTargetsTrue s found → AreEndsAlive s steps first last is n

-- a list has the labels of steps
abbrev pub HasLabelsOf : List Step → List ℤ → Type 0
HasLabelsOf steps alphabet = All (λ t. Contains alphabet t.label) steps

-- each value of an alphabet that a subject may have is one of some labels
abbrev pub AreClosed : Trail → ℕ → List ℤ → List ℤ → Type 0
AreClosed s i alphabet labels = (v : ℤ) → Contains alphabet v → IsOpenTo s i v → Contains labels v

-- wherever the body holds, a subject's value is at least a number, and at most one
pub record IsFrom (b : Body) (s : Trail) (i : ℕ) (least : ℤ) : Type 0 where
  pub at : (xs : List ℤ) → IsAdmitted s.first s.entries xs → HoldsBody b xs → least ≤ℤ value_at xs i

pub record IsSubjectUpTo (b : Body) (s : Trail) (i : ℕ) (greatest : ℤ) : Type 0 where
  pub at : (xs : List ℤ) → IsAdmitted s.first s.entries xs → HoldsBody b xs → value_at xs i ≤ℤ greatest

-- where the body holds nowhere that the store leaves, and what is found is given by it
pub record IsDead (s : Trail) (steps : List Step) (first : ℕ) (last : List Bool) (is : List ℕ) (found : List Narrowing) : Type 0 where
  pub given : (b : Body) → IsFollowed b s steps first last is → AllGiven b s found
  pub nowhere : (b : Body) → IsFollowed b s steps first last is → (xs : List ℤ) → IsAdmitted s.first s.entries xs
      → HoldsBody b xs → ⊥

-- what a walk over all positions comes to: what is found, or that there is no run
abbrev pub IsNarrowed : Trail → List Step → ℕ → List Bool → List ℕ → List Narrowing → Bool → Type 0
IsNarrowed s steps first last is found true = AreFound s steps first last is (length is) found
IsNarrowed s steps first last is found false = IsDead s steps first last is found

-- what a look comes to: a run, and what is found, or that there is none
abbrev pub IsRunLooked : Trail → List Step → ℕ → List Bool → List ℕ → List Narrowing → Bool → Type 0
IsRunLooked s steps first last is found true = CanEnd s steps last is first
    × AreFound s steps first last is (length is) found
IsRunLooked s steps first last is found false = IsDead s steps first last is found

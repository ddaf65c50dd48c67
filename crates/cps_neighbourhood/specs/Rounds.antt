-- What a round is: which variables it frees, what it decides, when it is refuted, and when it ends.
use Rattle.std.specs.Prelude.{ℕ, ◌+◌, ◌/◌, ◌≤◌, ◌<◌, ◌==◌, ◌≡◌, ◌⊎◌, min, ℤ, Bool, if◌then◌else◌, Option, Some, None, List, [], ◌∷◌, length, slice_index_or, All, Contains}
use Rattle.std.specs.List.{Any, list_any}
use Rattle.rand_pcg.specs.Lcg.{Lcg}
use Rattle.cps_literal.specs.declared.atom.Atom.{Atom}
use Rattle.cps_literal.specs.declared.atom.Op.TheVariants.{Eq}
use Rattle.cps_trail.specs.Trail.{Trail, Entry, Decision}
use Rattle.cps_branch.specs.Activities.{ByActivity}
use Rattle.cps_branch.specs.Choice.{IsUndecided}
use Rattle.cps_branch.specs.Hints.{ChoosesHinted}
use Rattle.cps_search.specs.Ends.{round_conflicts}
use Rattle.cps_neighbourhood.specs.Drawing.{sample}

-- how many of n variables a round frees
abbrev pub free_count : ℕ → ℕ
free_count n = min n (1 + n / 5)

-- the variables that it frees, by the words of a generator
abbrev pub freed : ℕ → Lcg → List ℕ
freed n draws = sample n (free_count n) draws

-- whether a number is on a list
abbrev pub is_on : List ℕ → ℕ → Bool
is_on xs i = list_any (λ x. x == i) xs

-- the atom that a variable has a value
abbrev pub has_value : ℕ → ℤ → Atom
has_value i x = record { subject = i; op = Eq; value = x }

-- the variables from `first` on have these values, but for the free ones, of which nothing is said
abbrev pub fixed_from : ℕ → List ℤ → List ℕ → List Atom
fixed_from first [] free = []
fixed_from first (x ∷ xs) free = if is_on free first then fixed_from
    (first + 1) xs free else has_value first x ∷ fixed_from (first + 1) xs free

-- what a round is to decide, in this order: that the variables which it does not free have their values of the solution
-- aimed at; without one it fixes nothing
abbrev pub to_decide : Option (List ℤ) → List ℕ → List Atom
to_decide None free = []
to_decide (Some solution) free = fixed_from 0 solution free

-- a round: what it is to decide, and how many clauses were learnt in it
pub record Round : Type 0 where
  pub decisions : List Atom
  pub learnt : ℕ

-- the round over n variables that begins with an aim and a generator
abbrev pub first_round : ℕ → Option (List ℤ) → Lcg → Round
first_round n aim draws = record { decisions = to_decide aim (freed n draws); learnt = 0 }

-- ---- what is decided in a round

-- the first of the decisions that the store leaves undecided: those whose value is gone or taken already are left out
pub record IsFirstOpenDecision (decisions : List Atom) (s : Trail) (t : Atom) : Type 0 where
  pub place : ℕ
  pub within : place < length decisions
  pub is : (d : Atom) → slice_index_or decisions place d ≡ t
  pub left_open : IsUndecided s t
  pub before : (j : ℕ) (d : Atom) → j < place → IsUndecided s (slice_index_or decisions j d) → ⊥

abbrev pub NoneOpen : List Atom → Trail → Type 0
NoneOpen decisions s = All (λ t. IsUndecided s t → ⊥) decisions

-- The round's first open decision, where there is one; then what the brancher chooses, by activity.
abbrev pub ChoosesInRound : List Atom → ByActivity → Trail → Option Atom → Type 0
ChoosesInRound decisions b s None = ⊥
ChoosesInRound decisions b s (Some t) = IsFirstOpenDecision decisions s t
    ⊎ (NoneOpen decisions s × ChoosesHinted b.activities b.hints s (Some t))

-- ---- when a round ends

-- an entry was decided as one of the round's decisions
pub record IsOfRound (decisions : List Atom) (e : Entry) : Type 0 where
  pub decided : e.reason ≡ Decision
  pub one_of : Contains decisions e.atom

-- the level of the last of the round's decisions that is on the trail
pub record IsLastLevel (decisions : List Atom) (s : Trail) (level : ℕ) : Type 0 where
  pub here : Any (λ e. IsOfRound decisions e × (e.level ≡ level)) s.entries
  pub last : All (λ e. IsOfRound decisions e → e.level ≤ level) s.entries

-- A round is left: a learnt clause sends the search back below the last of its decisions.
pub record IsRoundLeft (decisions : List Atom) (s : Trail) (back : ℕ) : Type 0 where
  pub level : ℕ
  pub last : IsLastLevel decisions s level
  pub below : back < level

-- a round ends with a learnt clause that is its last, or by which it is left
abbrev pub EndsRound : Round → Trail → ℕ → Type 0
EndsRound r s back = (r.learnt + 1 ≡ round_conflicts) ⊎ IsRoundLeft r.decisions s back

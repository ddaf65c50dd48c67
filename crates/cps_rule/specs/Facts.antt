-- Facts of a store, and what a body and they exclude.
use Rattle.std.specs.Prelude.{◌≡◌, ℕ, ℤ, true, false, List, [], ◌∷◌, ◌++◌, Option, Some, None, All, Contains}
use Rattle.cps_literal.specs.declared.atom.Atom.{Atom}
use Rattle.cps_literal.specs.Truth.{atom_holds}
use Rattle.cps_instance.specs.declared.task.Body.{Body}
use Rattle.cps_instance.specs.Tasks.{HoldsBody, subjects_of_body}
use Rattle.cps_trail.specs.Trail.{Trail, IsWithin}
use Rattle.cps_propagate.specs.Reasons.{SpeaksOf}
use Rattle.cps_rule.specs.Rules.{IsFact, AreFacts, AllTrueAt}

-- one fact more
pub record Adds (s : Trail) (u : Atom) (old new : List Atom) : Type 0 where
  pub is : new ≡ old ++ u ∷ []
  pub fact : IsFact s u

-- some facts more, each about one of these subjects
pub record Grows (s : Trail) (among : List ℕ) (old new : List Atom) : Type 0 where
  pub facts : AreFacts s old → AreFacts s new
  pub kept : (xs : List ℤ) → AllTrueAt xs new → AllTrueAt xs old
  pub about : (is : List ℕ) → All (Contains is) among → SpeaksOf is old → SpeaksOf is new

-- the atom that is to be given is false at a list of values; none is to be given where a conflict is sought
abbrev pub Denied : Option Atom → List ℤ → Type 0
Denied None xs = Unit {0}
Denied (Some u) xs = atom_holds xs u ≡ false

-- facts about the body's subjects beside which it does not hold where the atom is false
pub record GivesGoal (b : Body) (s : Trail) (goal : Option Atom) (us : List Atom) : Type 0 where
  pub facts : AreFacts s us
  pub speaks : SpeaksOf (subjects_of_body b) us
  pub excludes : (xs : List ℤ) → IsWithin s.first xs → AllTrueAt xs us → HoldsBody b xs → Denied goal xs → ⊥

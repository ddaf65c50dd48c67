-- What a rule may say of a body in a store: what it gives, when it cannot hold, when it is at rest, and by which facts.
use Rattle.std.specs.Prelude.{◌≡◌, ◌<◌, ℤ, true, List, length, All}
use Rattle.cps_literal.specs.declared.atom.Atom.{Atom}
use Rattle.cps_literal.specs.Truth.{atom_holds}
use Rattle.cps_instance.specs.declared.task.Body.{Body}
use Rattle.cps_instance.specs.Terms.{Domains, AreIntervals, domain_at}
use Rattle.cps_instance.specs.Fitting.{IsFittingBody}
use Rattle.cps_instance.specs.Tasks.{HoldsBody, subjects_of_body}
use Rattle.cps_trail.specs.Trail.{Trail, IsTrueNow, IsWithin, IsAdmitted, IsInside}
use Rattle.cps_propagate.specs.Now.{IsFixedNow, AreOpen}
use Rattle.cps_propagate.specs.Reasons.{SpeaksOf}
use Rattle.cps_propagate.specs.Strength.{IsStrongBody, IsExcludedBody}
use Rattle.cps_rule.specs.declared.rule.Look.{Look}
use Rattle.cps_rule.specs.declared.rule.Look.TheVariants.{Possible, Impossible}

-- a body whose subjects have domains, whose intervals rise, and that fits them
pub record IsFittingRule (domains : Domains) (b : Body) : Type 0 where
  pub subjects : All (λ i. i < length domains) (subjects_of_body b)
  pub sound : All (λ i. AreIntervals (domain_at domains i)) (subjects_of_body b)
  pub body : IsFittingBody domains b

-- an atom is true wherever the body holds at values that the store leaves
pub record IsGiven (body : Body) (s : Trail) (target : Atom) : Type 0 where
  pub subject : target.subject < length s.first
  pub at : (xs : List ℤ) → IsAdmitted s.first s.entries xs → HoldsBody body xs → atom_holds xs target ≡ true

-- the body holds at no values that the store leaves
pub record IsImpossible (body : Body) (s : Trail) : Type 0 where
  pub at : (xs : List ℤ) → IsAdmitted s.first s.entries xs → HoldsBody body xs → ⊥

-- what a look says: the body cannot hold, or its kind's rule does not tell that it cannot
abbrev pub IsSeen : Body → Trail → Look → Type 0
IsSeen body s Possible = IsExcludedBody body s → ⊥
IsSeen body s (Impossible hint) = IsImpossible body s

-- a body holds where its subjects are fixed, and is as strong as its kind's rule
pub record IsAtRest (body : Body) (s : Trail) : Type 0 where
  pub decided : All (IsFixedNow s) (subjects_of_body body) → (xs : List ℤ) → AreOpen s xs (subjects_of_body body)
      → HoldsBody body xs
  pub strong : IsStrongBody body s

-- an atom that is true in a store, and can be negated
pub record IsFact (s : Trail) (u : Atom) : Type 0 where
  pub subject : u.subject < length s.first
  pub inside : IsInside u.value
  pub true_now : IsTrueNow s u

abbrev pub AreFacts : Trail → List Atom → Type 0
AreFacts s us = All (IsFact s) us

-- each atom of a list is true at a list of values
abbrev pub AllTrueAt : List ℤ → List Atom → Type 0
AllTrueAt xs us = All (λ u. atom_holds xs u ≡ true) us

-- a body and facts of the store about its subjects give an atom, within the first domains
pub record IsExplained (body : Body) (s : Trail) (target : Atom) (us : List Atom) : Type 0 where
  pub facts : AreFacts s us
  pub speaks : SpeaksOf (subjects_of_body body) us
  pub gives : (xs : List ℤ) → IsWithin s.first xs → AllTrueAt xs us → HoldsBody body xs → atom_holds xs target ≡ true

-- a body cannot hold beside facts of the store about its subjects, within the first domains
pub record IsRefuted (body : Body) (s : Trail) (us : List Atom) : Type 0 where
  pub facts : AreFacts s us
  pub speaks : SpeaksOf (subjects_of_body body) us
  pub excludes : (xs : List ℤ) → IsWithin s.first xs → AllTrueAt xs us → HoldsBody body xs → ⊥

-- What a visit leaves: a task that is not in force, or whose body is at rest.
use Rattle.std.specs.Prelude.{◌⊎◌, ℕ, ◌<◌, List, length, slice_index_or, All}
use Rattle.cps_literal.specs.declared.atom.Atom.{Atom}
use Rattle.cps_instance.specs.declared.task.Body.{Body}
use Rattle.cps_trail.specs.Trail.{Trail, IsTrueNow, IsFalseNow}
use Rattle.cps_propagate.specs.Strength.{OthersAre, IsExcludedBody}
use Rattle.cps_instance.specs.Fitting.{IsFitting}
use Rattle.cps_rule.specs.Rules.{IsAtRest}
use Rattle.cps_enforce.specs.Reasons.{task_of}

-- an enforcement atom is not true, and false where all others are true and the body has no way to hold
pub record IsBlocked (s : Trail) (us : List Atom) (place : ℕ) (body : Body) : Type 0 where
  pub inside : place < length us
  pub not_true : (d : Atom) → IsTrueNow s (slice_index_or us place d) → ⊥
  pub last : OthersAre (IsTrueNow s) us place → IsExcludedBody body s → (d : Atom)
      → IsFalseNow s (slice_index_or us place d)

-- a body is at rest, and its rule does not tell that it cannot hold
pub record IsRestingBody (body : Body) (s : Trail) : Type 0 where
  pub rest : IsAtRest body s
  pub possible : IsExcludedBody body s → ⊥

abbrev pub IsBodySettled : Trail → List Atom → Body → Type 0
IsBodySettled s us body = ((place : ℕ) × IsBlocked s us place body) ⊎ IsRestingBody body s

-- a task that fits is in force
pub record IsTaskInForce (s : Trail) (us : List Atom) (body : Body) : Type 0 where
  pub fits : IsFitting s.first (task_of us body)
  pub on : All (IsTrueNow s) us

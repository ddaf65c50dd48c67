-- Whether a task is in force.
use Rattle.std.specs.Prelude.{ℕ, ◌+◌, ◌<◌, List, ◌++◌, length, take, drop, slice_index_or, All}
use Rattle.cps_literal.specs.declared.atom.Atom.{Atom}
use Rattle.cps_trail.specs.Trail.{Domains, Trail, IsInside, IsTrueNow, IsFalseNow}
use Rattle.cps_propagate.specs.Strength.{OthersAre}
use Rattle.cps_enforce.specs.declared.force.Force.{Force}
use Rattle.cps_enforce.specs.declared.force.Force.TheVariants.{On, Open, Idle}

-- all atoms but one are true, which is open
pub record IsOpenAt (s : Trail) (us : List Atom) (place : ℕ) : Type 0 where
  pub inside : place < length us
  pub others : OthersAre (IsTrueNow s) us place
  pub not_true : (d : Atom) → IsTrueNow s (slice_index_or us place d) → ⊥
  pub not_false : (d : Atom) → IsFalseNow s (slice_index_or us place d) → ⊥

-- an atom is not true, and false where all others are true
pub record IsBarred (s : Trail) (us : List Atom) (place : ℕ) : Type 0 where
  pub inside : place < length us
  pub not_true : (d : Atom) → IsTrueNow s (slice_index_or us place d) → ⊥
  pub last : OthersAre (IsTrueNow s) us place → (d : Atom) → IsFalseNow s (slice_index_or us place d)

abbrev pub IsForce : Trail → List Atom → Force → Type 0
IsForce s us On = All (IsTrueNow s) us
IsForce s us (Open place) = IsOpenAt s us place
IsForce s us Idle = (place : ℕ) × IsBarred s us place

-- atoms that can be negated, about subjects that there are
pub record AreNegatable (first : Domains) (us : List Atom) : Type 0 where
  pub inside : All (λ u. IsInside u.value) us
  pub subjects : All (λ u. u.subject < length first) us

-- the atoms but the one at a place
abbrev pub but : List Atom → ℕ → List Atom
but us place = take place us ++ drop (place + 1) us

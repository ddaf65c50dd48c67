-- The normal form of a clause.
use Rattle.std.specs.Prelude.{ℕ, ◌≡◌, ◌==◌, nat_lt, Bool, true, ◌&&◌, ◌||◌, int_lt, ◌⊎◌, List, All, Any, AllPairs, Contains}
use Rattle.cps_literal.specs.declared.atom.Op.{Op}
use Rattle.cps_literal.specs.declared.atom.Op.TheVariants.{Le, Ge, Eq, Ne}
use Rattle.cps_literal.specs.declared.atom.Atom.{Atom}
use Rattle.cps_literal.specs.Truth.{Implies}

-- the operators in order
abbrev pub rank : Op → ℕ
rank Le = 0
rank Ge = 1
rank Eq = 2
rank Ne = 3

-- one atom stands before another: by subject, then operator, then number
abbrev pub comes_before : Atom → Atom → Bool
comes_before t u =
    nat_lt t.subject u.subject
    || (t.subject == u.subject && (nat_lt (rank t.op) (rank u.op) || (rank t.op == rank u.op && int_lt t.value u.value)))

-- the first stands before the second, and neither implies the other
pub record IsApart (t u : Atom) : Type 0 where
  pub before : comes_before t u ≡ true
  pub one : Implies t u → ⊥
  pub other : Implies u t → ⊥

-- the atoms are sorted, and none implies another
abbrev pub IsNormal : List Atom → Type 0
IsNormal clause = AllPairs IsApart clause

-- a clause's atoms are among the given ones, and each given one implies one of them
pub record IsNormalOf (atoms clause : List Atom) : Type 0 where
  pub kept : All (Contains atoms) clause
  pub covered : All (λ t. Any (Implies t) clause) atoms

-- a normal list after one more atom
pub record Includes (old : List Atom) (atom : Atom) (new : List Atom) : Type 0 where
  pub normal : IsNormal new
  pub kept : (u : Atom) → Contains new u → Contains old u ⊎ (u ≡ atom)
  pub covered : (u : Atom) → Contains old u ⊎ (u ≡ atom) → Any (Implies u) new

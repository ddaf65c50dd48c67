-- Which atom a brancher chooses.
use Rattle.std.specs.Prelude.{ℕ, ℤ, ◌≡◌, ◌<◌, ◌≤◌, ◌≤ℤ◌, true, List, length, slice_index}
use Rattle.cps_literal.specs.declared.atom.Atom.{Atom}
use Rattle.cps_literal.specs.declared.atom.Op.TheVariants.{Le}
use Rattle.cps_trail.specs.Trail.{Trail, admits, IsTrueNow, IsFalseNow}
use Rattle.cps_branch.specs.Fixed.{IsFixed, AreFixed}

-- the atom's subject is one of the store's, and has a value that meets the atom and one that does not
pub record IsUndecided (s : Trail) (t : Atom) : Type 0 where
  pub subject : t.subject < length s.first
  pub not_true : IsTrueNow s t → ⊥
  pub not_false : IsFalseNow s t → ⊥

-- the atom says that its subject has its least value
pub record TakesLeast (s : Trail) (t : Atom) : Type 0 where
  pub op : t.op ≡ Le
  pub value : admits s.first s.entries t.subject t.value ≡ true
  pub least : (x : ℤ) → admits s.first s.entries t.subject x ≡ true → t.value ≤ℤ x

-- of the first n subjects this is the first that is not fixed
pub record IsFirstOpen (n : ℕ) (s : Trail) (i : ℕ) : Type 0 where
  pub within : i < n
  pub before : AreFixed s i
  pub open_now : IsFixed s i → ⊥

-- of the subjects that are not fixed this one has the greatest activity, and is the first that has it
pub record IsMostActive (activities : List ℕ) (s : Trail) (i : ℕ) : Type 0 where
  pub within : i < length activities
  pub open_now : IsFixed s i → ⊥
  pub greatest : (j : ℕ) → j < length activities → (IsFixed s j → ⊥)
      → slice_index activities j ≤ slice_index activities i
  pub first : (j : ℕ) → j < i → (IsFixed s j → ⊥) → slice_index activities j < slice_index activities i

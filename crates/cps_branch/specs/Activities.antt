-- How a learnt clause changes the activities of variables.
use Rattle.std.specs.Prelude.{ℕ, ◌+◌, ◌/◌, ◌^◌, ◌<◌, ◌≤◌, ◌≡◌, ◌==◌, Bool, true, false, if◌then◌else◌, ℤ, Option, List, length, map, slice_index, slice_index_or}
use Rattle.std.specs.List.{list_any}
use Rattle.cps_literal.specs.declared.atom.Atom.{Atom}
use Rattle.cps_branch.specs.declared.ranking.Aside.{Aside}
use Rattle.cps_branch.specs.Luby.{Pace}

-- whether an atom of the clause is about the subject
abbrev pub speaks_of : List Atom → ℕ → Bool
speaks_of clause i = list_any (λ t. t.subject == i) clause

-- what a variable gains by a clause
abbrev pub gain : List Atom → ℕ → ℕ
gain clause i = if speaks_of clause i then 1 else 0

-- each variable of the clause gained 1, and the others nothing
pub record AreGained (clause : List Atom) (old new : List ℕ) : Type 0 where
  pub same_length : length new ≡ length old
  pub each : (i : ℕ) → i < length old → slice_index new i ≡ slice_index old i + gain clause i

-- one of the activities is 2 ^ 40 or more
abbrev pub ReachesLimit : List ℕ → Type 0
ReachesLimit activities = (i : ℕ) × (i < length activities) × (2 ^ 40 ≤ slice_index activities i)

-- each variable of the clause gained 1; then, where one reached 2 ^ 40, all were halved
pub record AreBumped (clause : List Atom) (old new : List ℕ) : Type 0 where
  pub gained : List ℕ
  pub gains : AreGained clause old gained
  pub halved : ReachesLimit gained → new ≡ map (λ a. a / 2) gained
  pub kept : (ReachesLimit gained → ⊥) → new ≡ gained

-- all are below 2 ^ 40
abbrev pub AreSmall : List ℕ → Type 0
AreSmall activities = (i : ℕ) → i < length activities → slice_index activities i < 2 ^ 40

-- no variable is marked
abbrev pub NoneMarked : List Bool → Type 0
NoneMarked marks = (i : ℕ) → i < length marks → slice_index_or marks i false ≡ false

-- one subject gained 1, where it is a variable that was not marked, and is marked
pub record MarksOne (subject : ℕ) (marks marks' : List Bool) (old new : List ℕ) : Type 0 where
  pub marked : (i : ℕ) → i < length old
      → slice_index_or marks' i false ≡ (if subject == i then true else slice_index_or marks i false)
  pub each : (i : ℕ) → i < length old
      → slice_index new i ≡ slice_index old i +
      (if subject == i then (if slice_index_or marks i false then 0 else 1) else 0)

-- a brancher by activity: the activity of each variable, the pace of its restarts, the values to try first, and the
-- variables that it set aside, each with a number of entries after which it and those before it on the list were fixed
pub record ByActivity : Type 0 where
  pub activities : List ℕ
  pub pace : Pace
  pub hints : List (Option ℤ)
  pub aside : List Aside

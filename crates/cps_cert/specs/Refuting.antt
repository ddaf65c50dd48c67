-- When a constraint cannot hold in the box of a clause, so that the clause follows from it. Linear and Boolean
-- constraints are judged by the ends of their sums and by which of their literals are fixed, all others by trying the
-- assignments in the box.
use Rattle.std.specs.Prelude.{◌≡◌, Bool, true, false, MatchBool, ℕ, ◌+◌, ◌%◌, ◌≤◌, ◌⊎◌, ℤ, List, [], ◌∷◌, ◌++◌, length, All, Any}
use Rattle.cps_model.specs.declared.model.CpModel.{CpModel}
use Rattle.cps_model.specs.declared.model.LinearExpr.{LinearExpr}
use Rattle.cps_model.specs.declared.constraint.Constraint.{Constraint}
use Rattle.cps_model.specs.declared.constraint.Kind.{Kind}
use Rattle.cps_model.specs.declared.constraint.Kind.TheVariants.{BoolOr, BoolAnd, AtMostOne, ExactlyOne, BoolXor, Linear}
use Rattle.cps_model.specs.Within.{is_within}
use Rattle.cps_model.specs.Meaning.{IsSatisfied}
use Rattle.cps_literal.specs.declared.atom.Atom.{Atom}
use Rattle.cps_log.specs.Subjects.{extended, subject_domains, subject_count}
use Rattle.cps_unit.specs.Boxes.{Box, LieIn}
use Rattle.cps_log.specs.Boxes.{box_of, IsFixedTrue, IsFixedFalse, IsSumOutside}
use Rattle.cps_cert.specs.Counting.{most_assignments, read_variables, sum_variables, HasAssignments}

-- at two positions
abbrev pub AtTwo : (ℤ → Type 0) → List ℤ → Type 0
AtTwo P [] = ⊥
AtTwo P (r ∷ rs) = (P r × Any P rs) ⊎ AtTwo P rs

-- all literals are fixed, so many positions true
abbrev pub HasTrueCount : Box → List ℤ → ℕ → Type 0
HasTrueCount box [] n = n ≡ 0
HasTrueCount box (r ∷ rs) n =
    (IsFixedTrue box r × ((k : ℕ) × HasTrueCount box rs k × (n ≡ k + 1))) ⊎ (IsFixedFalse box r × HasTrueCount box rs n)

pub record HasEvenCount (box : Box) (literals : List ℤ) : Type 0 where
  pub count : ℕ
  pub is : HasTrueCount box literals count
  pub even : count % 2 ≡ 0

-- in a box all enforcement literals are true, and what is demanded then cannot hold
pub record IsRefutedInForce (box : Box) (enforcement : List ℤ) (Refuted : Type 0) : Type 0 where
  pub enforced : All (IsFixedTrue box) enforcement
  pub refuted : Refuted

-- an assignment that lies in the box of a clause, and its sums too
pub record LiesInBox (m : CpModel) (sums : List LinearExpr) (clause : List Atom) (a : List ℤ) : Type 0 where
  pub long : length a ≡ length m.variables
  pub inside : LieIn (subject_count m.variables sums) (box_of (subject_domains m.variables sums) clause)
      (extended sums a)

-- the box has few assignments of the variables that are read, and none in it satisfies the constraint
pub record IsRefutedByAll (m : CpModel) (sums : List LinearExpr) (clause : List Atom) (c : Constraint) : Type 0 where
  pub count : ℕ
  pub counted : HasAssignments (box_of (subject_domains m.variables sums) clause)
      (read_variables m.constraints c ++ sum_variables m.variables sums clause) 0 (length m.variables) count
  pub few : count ≤ most_assignments
  pub none : (a : List ℤ) → LiesInBox m sums clause a → ¬ IsSatisfied m.constraints a c

-- the kinds that are judged by the ends of their sum and by their fixed literals
abbrev pub is_direct : Kind → Bool
is_direct (Linear vars coeffs domain) = true
is_direct (BoolOr literals) = true
is_direct (BoolAnd literals) = true
is_direct (AtMostOne literals) = true
is_direct (ExactlyOne literals) = true
is_direct (BoolXor literals) = true
is_direct kind = false

-- what one of these kinds demands cannot hold in a box
abbrev pub IsDemandRefuted : Box → Kind → Type 0
IsDemandRefuted box (Linear vars coeffs domain) = IsSumOutside box vars coeffs (is_within domain)
IsDemandRefuted box (BoolOr literals) = All (IsFixedFalse box) literals
IsDemandRefuted box (BoolAnd literals) = Any (IsFixedFalse box) literals
IsDemandRefuted box (AtMostOne literals) = AtTwo (IsFixedTrue box) literals
IsDemandRefuted box (ExactlyOne literals) = All (IsFixedFalse box) literals ⊎ AtTwo (IsFixedTrue box) literals
IsDemandRefuted box (BoolXor literals) = HasEvenCount box literals
IsDemandRefuted box kind = ⊥

-- a constraint of this kind cannot hold in the box of a clause
abbrev pub IsRefutedAs : CpModel → List LinearExpr → List Atom → Box → Constraint → Kind → Type 0
IsRefutedAs m sums clause box c kind =
    MatchBool (is_direct kind)
    (IsRefutedInForce box c.enforcement (IsDemandRefuted box kind))
    (IsRefutedByAll m sums clause c)

-- a constraint refutes the box of a clause
abbrev pub Refutes : CpModel → List LinearExpr → List Atom → Constraint → Type 0
Refutes m sums clause c = IsRefutedAs m sums clause (box_of (subject_domains m.variables sums) clause) c c.kind

-- What trying assignments keeps: what was read so far, and how many assignments the box has of it.
use Rattle.std.specs.Prelude.{◌≡◌, ℕ, ◌<◌, ◌≤◌, ◌⊎◌, Bool, true, ℤ, List, [], ◌++◌, map, length, slice_index_or, Contains, All, IfSome}
use Rattle.std.specs.List.{flat_map}
use Rattle.cps_model.specs.declared.model.CpModel.{CpModel}
use Rattle.cps_model.specs.declared.model.LinearExpr.{LinearExpr}
use Rattle.cps_model.specs.declared.model.Variable.{Variable}
use Rattle.cps_model.specs.declared.constraint.Constraint.{Constraint}
use Rattle.cps_model.specs.declared.constraint.Kind.{Kind}
use Rattle.cps_model.specs.Rules.{literals_of, references_of, sums_of}
use Rattle.cps_model.specs.Scheduling.{constraint_at}
use Rattle.cps_model.specs.Values.{variable_value, expression_value}
use Rattle.cps_model.specs.Meaning.{IsSatisfied}
use Rattle.cps_model.specs.Within.{is_within}
use Rattle.cps_model.specs.Solutions.{are_within}
use Rattle.cps_domain.specs.Window.{Window}
use Rattle.cps_literal.specs.declared.atom.Atom.{Atom}
use Rattle.cps_log.specs.Subjects.{subject_domains, subject_count, sum_at, variable_domain}
use Rattle.cps_unit.specs.Boxes.{Box, HasValues}
use Rattle.cps_log.specs.Boxes.{box_of}
use Rattle.cps_cert.specs.declared.assignments.Assignments.{Assignments}
use Rattle.cps_cert.specs.Counting.{most_assignments, HasAssignments, variables_of, variables_of_sum, variables_of_named}
use Rattle.cps_rup.specs.Domains.{box_in}

-- domains are the box of a clause, and leave each subject a value
pub record IsBoxOf (m : CpModel) (sums : List LinearExpr) (clause : List Atom) (domains : List Window) : Type 0 where
  pub many : length domains ≡ subject_count m.variables sums
  pub same : (s : ℕ) (x : ℤ) → box_in domains s x ≡ box_of (subject_domains m.variables sums) clause s x
  pub values : HasValues (length domains) (box_in domains)

-- one number alone passes a test
pub record IsOnly (admits : ℤ → Bool) (x : ℤ) : Type 0 where
  pub admitted : admits x ≡ true
  pub alone : (y : ℤ) → admits y ≡ true → y ≡ x

-- What was read, where the assignments are few: each variable that was read is listed as unfixed, or has the one value
-- that it is left.
pub record IsRead (box : Box) (n : ℕ) (read : List ℕ) (values : List ℤ) (unfixed : List ℕ) (count : ℕ) : Type 0 where
  pub few : count ≤ most_assignments
  pub counted : HasAssignments box read 0 n count
  pub within : (v : ℕ) → Contains unfixed v → v < n
  pub before : (v : ℕ) → Contains unfixed v → Contains read v
  pub settled : (v : ℕ) → v < n → Contains read v → Contains unfixed v ⊎ IsOnly (box v) (variable_value values v)

-- there are too many assignments, whatever is read further
pub record IsTooMuch (box : Box) (n : ℕ) (read : List ℕ) : Type 0 where
  pub many : (more : List ℕ) (k : ℕ) → HasAssignments box (read ++ more) 0 n k → most_assignments < k

-- what is left to a variable lies in its domain, and each is left something
pub record IsInDomains (domains : List Window) (vs : List Variable) : Type 0 where
  pub many : length vs ≤ length domains
  pub values : HasValues (length vs) (box_in domains)
  pub at : (v : ℕ) (x : ℤ) → v < length vs → box_in domains v x ≡ true
      → is_within (slice_index_or (map variable_domain vs) v []) x ≡ true

-- what was read, or that it is too much
pub record HasRead (box : Box) (vs : List Variable) (read : List ℕ) (s : Assignments) : Type 0 where
  pub valued : are_within vs s.values.items ≡ true
  pub state : IsRead box (length vs) read s.values.items s.unfixed.items s.count
      ⊎ ((most_assignments < s.count) × IsTooMuch box (length vs) read)

-- after what was read before, these variables were read as well
abbrev pub ReadsOn : List Window → Assignments → List ℕ → Assignments → Type 0
ReadsOn domains old more new = (vs : List Variable) (read : List ℕ) → IsInDomains domains vs
    → HasRead (box_in domains) vs read old → HasRead (box_in domains) vs (read ++ more) new

-- the variables that stand in a kind, and those that say whether and when intervals run
abbrev pub kind_variables : Kind → List ℕ
kind_variables kind = variables_of (literals_of kind ++ references_of kind) ++ flat_map variables_of_sum (sums_of kind)

abbrev pub named_variables : List Constraint → List ℤ → List ℕ
named_variables cs intervals = flat_map (λ i. variables_of_named (constraint_at cs i)) intervals

-- the sum that an atom is about, if it is about one, lies in the box
abbrev pub LiesIn : List Variable → List LinearExpr → Box → List ℤ → Atom → Type 0
LiesIn vs sums box a t = IfSome (sum_at vs sums t.subject) (λ e. box t.subject (expression_value a e) ≡ true)

-- the sums that a clause is about lie in the box, and the constraint is satisfied
pub record IsGood (m : CpModel) (sums : List LinearExpr) (clause : List Atom) (box : Box) (c : Constraint) (a : List ℤ) : Type 0 where
  pub inside : All (LiesIn m.variables sums box a) clause
  pub satisfied : IsSatisfied m.constraints a c

-- an assignment with the same values but for unfixed variables, which have values that the box leaves them
pub record IsReached (box : Box) (unfixed : List ℕ) (a b : List ℤ) : Type 0 where
  pub long : length b ≡ length a
  pub same : (v : ℕ) → ¬ Contains unfixed v → variable_value b v ≡ variable_value a v
  pub inside : (v : ℕ) → Contains unfixed v → box v (variable_value b v) ≡ true

-- some assignment that can be reached is good
pub record CanReach (box : Box) (unfixed : List ℕ) (Good : List ℤ → Type 0) (a : List ℤ) : Type 0 where
  pub assignment : List ℤ
  pub reached : IsReached box unfixed a assignment
  pub good : Good assignment

-- The log of a run: what each of its items says of the model, and how the items go with what was learnt and with the
-- end. A checker accepts the items of sums, of assumptions and of learnt clauses as they stand here. Of the others the
-- clause is true wherever its constraint, its sum or the objective says so; whether a checker can show that too is not
-- said.
use Rattle.std.specs.Prelude.{◌≡◌, ◌↔◌, ⊤, ℕ, ◌<◌, IsTrue, ℤ, List, [], ◌∷◌, ◌++◌, IsSomeAnd, slice_get, slice_index_or}
use Rattle.cps_model.specs.declared.model.CpModel.{CpModel}
use Rattle.cps_model.specs.declared.model.LinearExpr.{LinearExpr}
use Rattle.cps_model.specs.declared.constraint.Constraint.{Constraint}
use Rattle.cps_model.specs.Values.{expression_value}
use Rattle.cps_model.specs.Within.{is_within}
use Rattle.cps_model.specs.Meaning.{IsSatisfied}
use Rattle.cps_model.specs.Solutions.{IsWithinDomains, objective_value, meets_objective}
use Rattle.cps_literal.specs.declared.atom.Atom.{Atom}
use Rattle.cps_literal.specs.Truth.{value_at, clause_holds}
use Rattle.cps_log.specs.declared.item.LogItem.{LogItem}
use Rattle.cps_log.specs.declared.item.LogItem.TheVariants as items
use Rattle.cps_log.specs.Subjects.{extended, subject_domains, subject_count, sum_at, IsDefinable}
use Rattle.cps_log.specs.Deriving.{Derivation, empty_derivation, after_item}
use Rattle.cps_log.specs.Rows.{IsLearntRow}

-- ---- what an item says

-- a clause is true at each extended assignment of the domains at which a condition holds
abbrev pub HoldsWhere : CpModel → List LinearExpr → (List ℤ → Type 0) → List Atom → Type 0
HoldsWhere m sums condition clause = (a : List ℤ) → IsWithinDomains m a → condition a
    → IsTrue (clause_holds clause (extended sums a))

-- values of the subjects, each in its domain
abbrev pub AreValues : CpModel → List LinearExpr → List ℤ → Type 0
AreValues m sums xs = (s : ℕ) → s < subject_count m.variables sums
    → IsTrue (is_within (slice_index_or (subject_domains m.variables sums) s []) (value_at xs s))

-- a clause is true at all values of the subjects at which one has what its sum is
abbrev pub HoldsBySum : CpModel → List LinearExpr → ℕ → List Atom → LinearExpr → Type 0
HoldsBySum m sums subject clause e = (xs : List ℤ) → AreValues m sums xs
    → value_at xs subject ≡ expression_value xs e → IsTrue (clause_holds clause xs)

-- the objective lies in its domain, and is one that is looked for
pub record IsSought (m : CpModel) (sought : ℤ → Type 0) (a : List ℤ) : Type 0 where
  pub in_domain : IsTrue (meets_objective m.objective a)
  pub below : sought (objective_value m a)

abbrev pub HoldsByConstraint : CpModel → List LinearExpr → List Atom → Constraint → Type 0
HoldsByConstraint m sums clause c = HoldsWhere m sums (λ a. IsSatisfied m.constraints a c) clause

-- An item that says what is so, after what the earlier ones derived. The log may rest on some assumptions, and some
-- objectives are sought.
abbrev pub IsTrueItem : CpModel → (ℤ → Type 0) → (ℤ → Type 0) → Derivation → LogItem → Type 0
IsTrueItem m rests sought g (items.Sum e) = IsDefinable m.variables e
IsTrueItem m rests sought g (items.Reason constraint clause) =
    IsSomeAnd (slice_get m.constraints constraint) (HoldsByConstraint m g.sums clause)
IsTrueItem m rests sought g (items.Objective clause) = HoldsWhere m g.sums (IsSought m sought) clause
IsTrueItem m rests sought g (items.Ends subject clause) =
    IsSomeAnd (sum_at m.variables g.sums subject) (HoldsBySum m g.sums subject clause)
IsTrueItem m rests sought g (items.Assumed number) = IsSomeAnd (slice_get m.assumptions number) rests
IsTrueItem m rests sought g (items.Learnt clause) = IsLearntRow m g clause

-- each item of a list, after what the earlier ones derived
abbrev pub AreTrueItems : CpModel → (ℤ → Type 0) → (ℤ → Type 0) → Derivation → List LogItem → Type 0
AreTrueItems m rests sought g [] = ⊤
AreTrueItems m rests sought g (item ∷ rest) =
    IsTrueItem m rests sought g item × AreTrueItems m rests sought (after_item m g item) rest

-- what items derive one after another
abbrev pub derived_by : CpModel → Derivation → List LogItem → Derivation
derived_by m g [] = g
derived_by m g (item ∷ rest) = derived_by m (after_item m g item) rest

-- ---- how items go with a run

-- the clause of an item that was learnt and has atoms, before others
abbrev pub with_learnt : LogItem → List (List Atom) → List (List Atom)
with_learnt (items.Learnt []) clauses = clauses
with_learnt (items.Learnt (t ∷ ts)) clauses = (t ∷ ts) ∷ clauses
with_learnt (items.Sum e) clauses = clauses
with_learnt (items.Reason constraint clause) clauses = clauses
with_learnt (items.Objective clause) clauses = clauses
with_learnt (items.Ends subject clause) clauses = clauses
with_learnt (items.Assumed number) clauses = clauses

-- the learnt clauses of a log that have atoms, in order
abbrev pub learnt_in : List LogItem → List (List Atom)
learnt_in [] = []
learnt_in (item ∷ rest) = with_learnt item (learnt_in rest)

-- the last item is the empty clause
pub record IsClosedLog (log : List LogItem) : Type 0 where
  pub before : List LogItem
  pub is : log ≡ before ++ items.Learnt [] ∷ []

-- The log of a run that learnt these clauses: each item says what is so, the learnt clauses are those, and it ends with
-- the empty clause exactly where the run is closed.
pub record IsLogOf (m : CpModel) (rests sought : ℤ → Type 0) (learnt : List (List Atom)) (Closed : Type 0) (log : List LogItem) : Type 0 where
  pub items : AreTrueItems m rests sought empty_derivation log
  pub learnt_are : learnt_in log ≡ learnt
  pub closed : IsClosedLog log ↔ Closed

-- What a contract sees of a `Tracer`, and what its calls do.
use Rattle.std.specs.Prelude.{◌≡◌, ℕ, ℤ, pos, List, [], ◌∷◌, ◌++◌, length, Option, Some, None, slice_index_or}
use Rattle.cps_model.specs.declared.model.CpModel.{CpModel}
use Rattle.cps_model.specs.declared.model.LinearExpr.{LinearExpr}
use Rattle.cps_model.specs.declared.model.Variable.{Variable}
use Rattle.cps_literal.specs.declared.atom.Atom.{Atom}
use Rattle.cps_log.specs.declared.item.LogItem.{LogItem}
use Rattle.cps_log.specs.declared.item.LogItem.TheVariants as items
use Rattle.cps_log.specs.Subjects.{subject_count}
use Rattle.cps_log.specs.Deriving.{Derivation, empty_derivation, literal_clause, defined_sum}
use Rattle.cps_log.specs.Rows.{IsLearntRow}
use Rattle.cps_log.specs.Runs.{derived_by}

-- the variables and the assumptions of a model, and the items of the log so far
pub record Traced : Type 0 where
  pub variables : List Variable
  pub assumptions : List ℤ
  pub items : List LogItem

-- the log is about this model
pub record IsAbout (m : CpModel) (t : Traced) : Type 0 where
  pub variables : t.variables ≡ m.variables
  pub assumptions : t.assumptions ≡ m.assumptions

-- one item more
abbrev pub with_item : Traced → LogItem → Traced
with_item t item = record t { items = t.items ++ item ∷ [] }

-- what items so far derive of a model
abbrev pub derivation_of : CpModel → Traced → Derivation
derivation_of m t = derived_by m empty_derivation t.items

-- ---- sums and clauses

abbrev pub before : {X : Type 0} → Option X → List X → List X
before None xs = xs
before (Some x) xs = x ∷ xs

-- the sums that items define, in order
abbrev pub sums_in : List LogItem → List LinearExpr
sums_in [] = []
sums_in (item ∷ rest) = before (defined_sum item) (sums_in rest)

-- the clause that an item adds, if it is no sum
abbrev pub added_clause : List ℤ → LogItem → Option (List Atom)
added_clause assumptions (items.Sum e) = None
added_clause assumptions (items.Reason constraint clause) = Some clause
added_clause assumptions (items.Objective clause) = Some clause
added_clause assumptions (items.Ends subject clause) = Some clause
added_clause assumptions (items.Assumed number) = Some (literal_clause (slice_index_or assumptions number (pos 0)))
added_clause assumptions (items.Learnt clause) = Some clause

-- the clauses that items add, in order
abbrev pub clauses_in : List ℤ → List LogItem → List (List Atom)
clauses_in assumptions [] = []
clauses_in assumptions (item ∷ rest) = before (added_clause assumptions item) (clauses_in assumptions rest)

-- how many subjects there are: the variables, and the sums so far
abbrev pub subjects_of : Traced → ℕ
subjects_of t = subject_count t.variables (sums_in t.items)

-- the number that the next clause gets: how many there are
abbrev pub next_number : Traced → ℕ
next_number t = length (clauses_in t.assumptions t.items)

-- ---- a learnt clause

-- a clause follows from the earlier ones by unit propagation, and is the next item
pub record HasLearnt (old new : Traced) (clause : List Atom) (answer : ℕ) : Type 0 where
  pub row : (m : CpModel) → IsAbout m old → IsLearntRow m (derivation_of m old) clause
  pub added : new ≡ with_item old (items.Learnt clause)
  pub number : answer ≡ next_number old

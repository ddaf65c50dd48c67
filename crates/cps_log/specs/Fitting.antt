-- Items whose numbers a log may write: each has magnitude at most 2 ^ 62 and fits its type.
use Rattle.std.specs.Prelude.{◌≡◌, ◌<◌, ◌^◌, ℤ, pos, negsuc, List, length, All}
use Rattle.cps_model.specs.declared.model.LinearExpr.{LinearExpr}
use Rattle.cps_literal.specs.declared.atom.Atom.{Atom}
use Rattle.cps_log.specs.declared.item.LogItem.{LogItem}
use Rattle.cps_log.specs.declared.item.LogItem.TheVariants as items
use Rattle.cps_log.specs.Subjects.{IsNear}

-- a subject that a 32 bit number names: an atom on any other stands in no item
pub record FitsAtom (t : Atom) : Type 0 where
  pub subject : t.subject < 2 ^ 32
  pub near : IsNear t.value

abbrev pub FitsClause : List Atom → Type 0
FitsClause clause = All FitsAtom clause

-- a variable that a 31 bit number names
abbrev pub FitsVariable : ℤ → Type 0
FitsVariable (pos i) = i < 2 ^ 31
FitsVariable (negsuc i) = ⊥

-- so many variables as coefficients
pub record FitTerms (rs cs : List ℤ) : Type 0 where
  pub variables : All FitsVariable rs
  pub coefficients : All IsNear cs
  pub paired : length rs ≡ length cs

pub record FitsSum (e : LinearExpr) : Type 0 where
  pub offset : IsNear e.offset
  pub terms : FitTerms e.vars e.coeffs

abbrev pub FitsItem : LogItem → Type 0
FitsItem (items.Sum e) = FitsSum e
FitsItem (items.Reason constraint clause) = (constraint < 2 ^ 32) × FitsClause clause
FitsItem (items.Objective clause) = FitsClause clause
FitsItem (items.Ends subject clause) = (subject < 2 ^ 32) × FitsClause clause
FitsItem (items.Assumed number) = number < 2 ^ 32
FitsItem (items.Learnt clause) = FitsClause clause

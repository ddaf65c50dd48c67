-- What the items of a log derive one after another: sums, and clauses.
use Rattle.std.specs.Prelude.{Bool, true, false, ℤ, pos, negsuc, List, [], ◌∷◌, ◌++◌, Option, Some, None, slice_index_or}
use Rattle.cps_model.specs.declared.model.CpModel.{CpModel}
use Rattle.cps_model.specs.declared.model.LinearExpr.{LinearExpr}
use Rattle.cps_literal.specs.declared.atom.Atom.{Atom}
use Rattle.cps_literal.specs.declared.atom.Op.TheVariants.{Le, Ge}
use Rattle.cps_log.specs.declared.item.LogItem.{LogItem}
use Rattle.cps_log.specs.declared.item.LogItem.TheVariants as items

-- the sums and the clauses of a log so far
pub record Derivation : Type 0 where
  pub sums : List LinearExpr
  pub clauses : List (List Atom)

abbrev pub empty_derivation : Derivation
empty_derivation = record { sums = []; clauses = [] }

-- the clause that says that a literal is true
abbrev pub literal_clause : ℤ → List Atom
literal_clause (pos i) = record { subject = i; op = Ge; value = pos 1 } ∷ []
literal_clause (negsuc i) = record { subject = i; op = Le; value = pos 0 } ∷ []

abbrev pub with_sum : Derivation → LinearExpr → Derivation
with_sum g e = record { sums = g.sums ++ e ∷ []; clauses = g.clauses }

abbrev pub with_clause : Derivation → List Atom → Derivation
with_clause g clause = record { sums = g.sums; clauses = g.clauses ++ clause ∷ [] }

-- what an item adds
abbrev pub after_item : CpModel → Derivation → LogItem → Derivation
after_item m g (items.Sum e) = with_sum g e
after_item m g (items.Reason constraint clause) = with_clause g clause
after_item m g (items.Objective clause) = with_clause g clause
after_item m g (items.Ends subject clause) = with_clause g clause
after_item m g (items.Assumed number) =
    with_clause g (literal_clause (slice_index_or m.assumptions number (pos 0)))
after_item m g (items.Learnt clause) = with_clause g clause

-- the sum that an item defines
abbrev pub defined_sum : LogItem → Option LinearExpr
defined_sum (items.Sum e) = Some e
defined_sum (items.Reason constraint clause) = None
defined_sum (items.Objective clause) = None
defined_sum (items.Ends subject clause) = None
defined_sum (items.Assumed number) = None
defined_sum (items.Learnt clause) = None

-- the empty clause, which closes a log
abbrev pub is_closing : LogItem → Bool
is_closing (items.Learnt []) = true
is_closing (items.Learnt (t ∷ ts)) = false
is_closing (items.Sum e) = false
is_closing (items.Reason constraint clause) = false
is_closing (items.Objective clause) = false
is_closing (items.Ends subject clause) = false
is_closing (items.Assumed number) = false

-- How the items of a log are written, each in one way: a letter, and after it words, each after one blank.
use Rattle.std.specs.Prelude.{ℕ, ℤ, List, [], ◌∷◌, ◌++◌, codes}
use Rattle.std.specs.List.{flat_map}
use Rattle.std.specs.Fmt.{decimal, signed_decimal}
use Rattle.cps_model.specs.declared.model.LinearExpr.{LinearExpr}
use Rattle.cps_literal.specs.declared.atom.Atom.{Atom}
use Rattle.cps_literal.specs.declared.atom.Op.{Op}
use Rattle.cps_literal.specs.declared.atom.Op.TheVariants.{Le, Ge, Eq, Ne}
use Rattle.cps_log.specs.declared.item.LogItem.{LogItem}
use Rattle.cps_log.specs.declared.item.LogItem.TheVariants as items

abbrev pub behind_blank : List ℕ → List ℕ
behind_blank word = 32 ∷ word

abbrev pub op_text : Op → List ℕ
op_text Le = codes "<="
op_text Ge = codes ">="
op_text Eq = codes "="
op_text Ne = codes "!="

-- an atom without blanks: the subject, the operator, the number
abbrev pub atom_word : Atom → List ℕ
atom_word t = decimal t.subject ++ (op_text t.op ++ signed_decimal t.value)

abbrev pub clause_text : List Atom → List ℕ
clause_text clause = flat_map (λ t. behind_blank (atom_word t)) clause

-- each variable, followed by its coefficient
abbrev pub terms_text : List ℤ → List ℤ → List ℕ
terms_text [] cs = []
terms_text (r ∷ rs) [] = []
terms_text (r ∷ rs) (c ∷ cs) =
    behind_blank (signed_decimal r) ++ (behind_blank (signed_decimal c) ++ terms_text rs cs)

-- the offset, and then the terms
abbrev pub sum_text : LinearExpr → List ℕ
sum_text e = behind_blank (signed_decimal e.offset) ++ terms_text e.vars e.coeffs

-- the line of an item, without its line feed
abbrev pub item_line : LogItem → List ℕ
item_line (items.Sum e) = codes "s" ++ sum_text e
item_line (items.Reason constraint clause) = codes "e" ++ (behind_blank (decimal constraint) ++ clause_text clause)
item_line (items.Objective clause) = codes "o" ++ clause_text clause
item_line (items.Ends subject clause) = codes "t" ++ (behind_blank (decimal subject) ++ clause_text clause)
item_line (items.Assumed number) = codes "a" ++ behind_blank (decimal number)
item_line (items.Learnt clause) = codes "l" ++ clause_text clause

-- the lines of a log, each with its line feed
abbrev pub fed_item : LogItem → List ℕ
fed_item item = item_line item ++ 10 ∷ []

abbrev pub log_text : List LogItem → List ℕ
log_text items = flat_map fed_item items

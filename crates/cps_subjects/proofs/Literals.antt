-- The clause of a literal is over the variables.
use Rattle.std.proofs.Common.{◌≡◌, ◌<◌, List, [], length, true, arith, ℤ, pos, negsuc}
use Rattle.std.proofs.lemmas.List.Elements.{All-nil, All-cons}
use borrow.Author.Tests.{ltb-true}
use Rattle.cps_model.specs.declared.model.LinearExpr.{LinearExpr}
use Rattle.cps_model.specs.declared.model.Variable.{Variable}
use Rattle.cps_model.specs.Rules.{names}
use Rattle.cps_log.specs.Deriving.{literal_clause}
use Rattle.cps_log.specs.Subjects.{IsAtomOver, IsClauseOver, subject_count}

pub literal_over : (vs : List Variable) (sums : List LinearExpr) (r : ℤ) → names (length vs) r ≡ true → IsClauseOver (subject_count vs sums) (literal_clause r)
literal_over vs sums (pos i) named =
    let below : i < length vs = ltb-true _ _ named in
    All-cons (IsAtomOver (subject_count vs sums)) _ [] (record { subject = omega arith; near = omega arith }) (All-nil (IsAtomOver (subject_count vs sums)))
literal_over vs sums (negsuc i) named =
    let below : i < length vs = ltb-true _ _ named in
    All-cons (IsAtomOver (subject_count vs sums)) _ [] (record { subject = omega arith; near = omega arith }) (All-nil (IsAtomOver (subject_count vs sums)))

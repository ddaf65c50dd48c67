-- Which clause is in conflict with a store.
use Rattle.std.specs.Prelude.{ℕ, ◌<◌, ◌≡◌, List, [], length, slice_index_or, ⊤}
use Rattle.std.specs.List.{All}
use Rattle.cps_literal.specs.declared.atom.Atom.{Atom}
use Rattle.cps_trail.specs.Trail.{Trail, IsFalseNow}
use Rattle.cps_trail.specs.declared.step.Step.{Step}
use Rattle.cps_trail.specs.declared.step.Step.TheVariants.{Settled, Conflict}

-- a conflict is one of the clauses, which is false; its subjects exist
pub record IsConflictInForce (clauses : List (List Atom)) (s : Trail) (clause : List Atom) : Type 0 where
  pub number : ℕ
  pub within : number < length clauses
  pub is : clause ≡ slice_index_or clauses number []
  pub false_now : All (IsFalseNow s) clause
  pub subjects : All (λ t. t.subject < length s.first) clause

-- what clauses answer: one of them is the conflict, if there is one
abbrev pub AnswersByClauses : List (List Atom) → Trail → Step → Type 0
AnswersByClauses clauses s Settled = ⊤
AnswersByClauses clauses s (Conflict clause) = IsConflictInForce clauses s clause

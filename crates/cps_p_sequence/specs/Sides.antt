-- The two lists of an inverse, each as positions whose values differ.
use Rattle.std.specs.Prelude.{◌≡◌, ℕ, ℤ, List, All, Contains}
use Rattle.cps_instance.specs.declared.task.Body.{Body}
use Rattle.cps_instance.specs.declared.task.Body.TheVariants.{AllDiff}
use Rattle.cps_instance.specs.Tasks.{HoldsBody, subjects_of_body}
use Rattle.cps_trail.specs.Trail.{Trail}
use Rattle.cps_rule.specs.declared.rule.Look.{Look}
use Rattle.cps_rule.specs.declared.rule.Look.TheVariants.{Possible, Impossible}
use Rattle.cps_rule.specs.Rules.{IsImpossible}

-- bodies that ask of each of two lists that its values differ
pub record AreSides (ds js : List ℕ) (one two : Body) : Type 0 where
  pub direct : one ≡ AllDiff ds
  pub inverse : two ≡ AllDiff js

-- wherever a body holds, another holds, which reads no other subjects
pub record ImpliesBody (b p : Body) : Type 0 where
  pub at : (xs : List ℤ) → HoldsBody b xs → HoldsBody p xs
  pub subjects : All (Contains (subjects_of_body b)) (subjects_of_body p)

-- a body holds at no values that the store leaves, where a look says so
abbrev pub IsSeenImpossible : Body → Trail → Look → Type 0
IsSeenImpossible b s Possible = Unit {0}
IsSeenImpossible b s (Impossible hint) = IsImpossible b s

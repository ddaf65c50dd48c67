-- Lists of facts that say something.
use Rattle.std.specs.Prelude.{ℕ, ℤ, List, All, Contains}
use Rattle.cps_instance.specs.declared.task.Body.{Body}
use Rattle.cps_rule.specs.declared.rule.Narrowing.{Narrowing}
use Rattle.cps_literal.specs.declared.atom.Atom.{Atom}
use Rattle.cps_trail.specs.Trail.{Trail, IsTrueNow}
use Rattle.cps_propagate.specs.Reasons.{SpeaksOf}
use Rattle.cps_rule.specs.Rules.{AreFacts, AllTrueAt, IsGiven}

-- a list of facts grew by some about these subjects, and where all of it is true something holds
pub record Cites (s : Trail) (among : List ℕ) (old new : List Atom) (P : List ℤ → Type 0) : Type 0 where
  pub facts : AreFacts s old → AreFacts s new
  pub kept : (xs : List ℤ) → AllTrueAt xs new → AllTrueAt xs old
  pub about : (is : List ℕ) → All (Contains is) among → SpeaksOf is old → SpeaksOf is new
  pub gives : (xs : List ℤ) → AllTrueAt xs new → P xs

-- each target of a list is true
abbrev pub AreTrueNow : Trail → List Narrowing → Type 0
AreTrueNow s ns = All (λ n. IsTrueNow s n.target) ns

-- where each target of a newer list is true, each of an older one is
abbrev pub KeepsTargets : List Narrowing → List Narrowing → Type 0
KeepsTargets old new = (s : Trail) → AreTrueNow s new → AreTrueNow s old

-- each target of a list is given where each of an older list is
abbrev pub GivesMore : Body → Trail → List Narrowing → List Narrowing → Type 0
GivesMore body s old new = All (λ n. IsGiven body s n.target) old → All (λ n. IsGiven body s n.target) new

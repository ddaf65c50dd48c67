-- What a body and atoms that are true show.
use Rattle.std.specs.Prelude.{◌≡◌, ℕ, ◌<◌, ℤ, Bool, true, false, Option, IfSome}
use Rattle.std.specs.Prelude.{List, map, length, slice_index_or, All}
use Rattle.cps_literal.specs.declared.atom.Atom.{Atom}
use Rattle.cps_literal.specs.Truth.{atom_holds}
use Rattle.cps_instance.specs.declared.task.Body.{Body}
use Rattle.cps_instance.specs.declared.task.Body.TheVariants.{Circuit}
use Rattle.cps_instance.specs.Tasks.{HoldsBody, atom_subjects, subjects_of_body}
use Rattle.cps_trail.specs.Trail.{Trail, IsInside}
use Rattle.cps_propagate.specs.Now.{IsFixedNow, AreOpen}
use Rattle.cps_propagate.specs.Reasons.{SpeaksOf}
use Rattle.cps_rule.specs.Rules.{AreFacts, AllTrueAt}
use Rattle.cps_p_circuit.specs.declared.clash.Sign.{Sign}
use Rattle.cps_p_circuit.specs.declared.graph.Graph.{Graph}
use Rattle.cps_p_circuit.specs.Graphs.{number}
use Rattle.cps_p_circuit.specs.Clashes.{IsSignMet}

-- the body of arcs between nodes
abbrev pub body_by : List ℤ → List ℕ → List ℕ → List Atom → Body
body_by nodes from to literals = Circuit (map (number nodes) from) (map (number nodes) to) literals

abbrev pub body_of : Graph → List Atom → Body
body_of graph literals = body_by graph.nodes.items graph.from.items graph.to.items literals

-- whether each literal is true
abbrev pub taken_at : List ℤ → List Atom → List Bool
taken_at xs literals = map (atom_holds xs) literals

-- an atom that says of an arc's literal what a sign says of the arc
pub record IsAtomOf (literals : List Atom) (p : Sign) (u : Atom) : Type 0 where
  pub within : p.arc < length literals
  pub subject : (d : Atom) → u.subject ≡ (slice_index_or literals p.arc d).subject
  pub inside : IsInside u.value
  pub gives : (xs : List ℤ) → atom_holds xs u ≡ true → IsSignMet (taken_at xs literals) p

-- facts about the literals, and an atom beside them, make the signs true
pub record MakeSignsTrue (s : Trail) (literals : List Atom) (denied : Option Atom) (used : List Sign)
    (us : List Atom) : Type 0 where
  pub facts : AreFacts s us
  pub speaks : SpeaksOf (atom_subjects literals) us
  pub gives : (xs : List ℤ) → AllTrueAt xs us → IfSome denied (λ u. atom_holds xs u ≡ true)
      → All (IsSignMet (taken_at xs literals)) used

-- a body cannot hold beside facts about its subjects, and beside an atom
pub record IsShown (b : Body) (s : Trail) (denied : Option Atom) (us : List Atom) : Type 0 where
  pub facts : AreFacts s us
  pub speaks : SpeaksOf (subjects_of_body b) us
  pub excludes : (xs : List ℤ) → AllTrueAt xs us → IfSome denied (λ u. atom_holds xs u ≡ true) → HoldsBody b xs → ⊥

-- the literals are known, and those that are true are listed
pub record AreTaken (s : Trail) (literals : List Atom) (taken : List Bool) : Type 0 where
  pub is : (xs : List ℤ) → AreOpen s xs (atom_subjects literals) → taken_at xs literals ≡ taken

-- the subjects are not all fixed
abbrev pub IsOpenStill : Trail → List Atom → Type 0
IsOpenStill s literals = All (IsFixedNow s) (atom_subjects literals) → ⊥

abbrev pub is_circuit_body : Body → Bool
is_circuit_body (Circuit tails heads literals) = true
is_circuit_body _ = false

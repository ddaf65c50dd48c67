-- A brancher as contracts see it: the rules of one in order and of one by activity, and when one goes by a model.
use Rattle.std.specs.Prelude.{ℕ, ◌≡◌, ◌<◌, ℤ, Bool, false, Option, None, List, length, slice_index, slice_index_or, ⊤}
use Rattle.std.proofs.Common.{ap}
use Rattle.cps_literal.specs.declared.atom.Atom.{Atom}
use Rattle.cps_instance.specs.Problem.{Problem, variable_count}
use Rattle.cps_branch.specs.declared.guidance.Guidance.{Guidance}
use Rattle.cps_branch.specs.declared.guidance.Guidance.TheVariants.{Steered, Hinted}
use Rattle.cps_trail.specs.Trail.{Trail}
use Rattle.cps_branch.specs.Activities.{ByActivity, AreBumped}
use Rattle.cps_branch.specs.Hints.{hint_for, ChoosesHinted}
use Rattle.cps_branch.specs.Luby.{CountsConflict}
use Rattle.cps_branch.specs.Scope.{InOrder, IsScopeOf}
use Rattle.cps_branch.specs.Strategies.{ChoosesSteered, Planned}

-- one in order, by its plan, or one by activity
pub data Branching : Type 0 where
  in_order : Planned → Branching
  by_activity : ByActivity → Branching

-- what it goes by from its first choice to its last
abbrev pub guidance_of : Branching → Guidance
guidance_of (in_order plan) = Steered plan
guidance_of (by_activity b) = Hinted b.hints

-- A choice of one in order goes by its strategies and then its variables in order. One by activity takes the most
-- active of the variables that are not fixed, at the value of its hint.
abbrev pub ChoosesAs : Branching → Trail → Option Atom → Type 0
ChoosesAs (in_order plan) s choice = ChoosesSteered plan.strategies plan.variables s choice
ChoosesAs (by_activity b) s choice = (length b.activities ≡ length b.hints)
    × ChoosesHinted b.activities b.hints s choice

-- one in order keeps its plan, whatever it hears, and never asks for a restart
pub record HearsInOrder (plan : Planned) (restart : Bool) (after : Planned) : Type 0 where
  pub plan_stays : after ≡ plan
  pub goes_on : restart ≡ false

-- One by activity raises the activities of the clause's variables and counts one conflict more; its pace says when to
-- restart. Its hints stay.
pub record HearsByActivity (b : ByActivity) (clause : List Atom) (restart : Bool) (after : ByActivity) : Type 0 where
  pub bumped : AreBumped clause b.activities after.activities
  pub counted : CountsConflict b.pace after.pace restart
  pub hints : after.hints ≡ b.hints

-- what a learnt clause changes, and the answer to it
abbrev pub HearsAs : Branching → List Atom → Bool → Branching → Type 0
HearsAs (in_order plan) clause restart (in_order after) = HearsInOrder plan restart after
HearsAs (by_activity b) clause restart (by_activity after) = HearsByActivity b clause restart after
HearsAs (in_order plan) clause restart (by_activity after) = ⊥
HearsAs (by_activity b) clause restart (in_order after) = ⊥

-- a choice of one by activity leaves all but which variables are set aside
pub record StaysByActivity (b after : ByActivity) : Type 0 where
  pub activities : after.activities ≡ b.activities
  pub pace : after.pace ≡ b.pace
  pub hints : after.hints ≡ b.hints

-- what no choice changes
abbrev pub StaysAs : Branching → Branching → Type 0
StaysAs (in_order plan) (in_order after) = after ≡ plan
StaysAs (by_activity b) (by_activity after) = StaysByActivity b after
StaysAs (in_order plan) (by_activity after) = ⊥
StaysAs (by_activity b) (in_order after) = ⊥

-- it goes in order
abbrev pub IsInOrder : Branching → Type 0
IsInOrder (in_order plan) = ⊤
IsInOrder (by_activity b) = ⊥

-- no variable has an activity yet, and no conflict was counted
pub record IsIdleByActivity (b : ByActivity) : Type 0 where
  pub places : length b.hints ≡ length b.activities
  pub idle : (i : ℕ) → slice_index b.activities i ≡ 0
  pub pace : b.pace ≡ record { restarts = 0; conflicts = 0 }

-- it has heard nothing yet
abbrev pub IsIdle : Branching → Type 0
IsIdle (in_order plan) = ⊤
IsIdle (by_activity b) = IsIdleByActivity b

-- what the two branchers hear and keep is so; these stand here since their impls name them as ghost items
pub heard_in_order : (b c : InOrder) (restart : Bool) → c ≡ b → restart ≡ false → HearsInOrder b.plan restart c.plan
heard_in_order b c restart same never = record { plan_stays = ap (λ (x : InOrder). x.plan) same; goes_on = never }

pub heard_by_activity : (b c : ByActivity) (clause : List Atom) (restart : Bool)
    → AreBumped clause b.activities c.activities × CountsConflict b.pace c.pace restart × (c.hints ≡ b.hints)
    → HearsByActivity b clause restart c
heard_by_activity b c clause restart h = record { bumped = h.0; counted = h.1; hints = h.2 }

pub stayed_by_activity : (b c : ByActivity)
    → (c.activities ≡ b.activities) × (c.pace ≡ b.pace) × (c.hints ≡ b.hints) → StaysByActivity b c
stayed_by_activity b c h = record { activities = h.0; pace = h.1; hints = h.2 }

-- a plan goes through the strategies of an instance, and then through its variables
pub record IsPlanOf (p : Problem) (plan : Planned) : Type 0 where
  pub strategies : plan.strategies ≡ p.steering
  pub scope : IsScopeOf p (record { variables = plan.variables; subjects = plan.subjects })

-- each variable, and nothing else, has a place, with the value that the model's hint gives it
pub record AreHintsOf (p : Problem) (hints : List (Option ℤ)) : Type 0 where
  pub count : length hints ≡ variable_count p
  pub values : (i : ℕ) → i < variable_count p → slice_index_or hints i None ≡ hint_for p.model.hint i

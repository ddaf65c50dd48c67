-- Turns of a core-guided worker go by what is seen of its brancher.
use Rattle.std.specs.Prelude.{Bool}
use Rattle.std.proofs.Common.{ℕ, ◌≡◌, ◌⊎◌, inl, inr, Option, Some, List, ap}
use Rattle.cps_literal.specs.declared.atom.Atom.{Atom}
use Rattle.cps_trail.specs.Trail.{Trail}
use Rattle.cps_port.specs.declared.part.Part.{Part}
use Rattle.cps_branch.specs.Guidances.{Branching, ChoosesAs, HearsAs, StaysAs}
use Rattle.cps_search.specs.declared.turn.Turn.{Turn}
use Rattle.cps_search.specs.declared.turn.Turn.TheVariants as turns
use Rattle.cps_search.specs.Searches.{Search}
use Rattle.cps_search.specs.Ends.{BrancherTurn, HeardOne}
use Rattle.cps_core_guided.specs.Reforming.{CoreSearch}
use Rattle.cps_core_guided.specs.CoreTurns.{CoreCaused, DecidesFrom, DecidesOf, OneCoreTurn, TakesCoreTurn, of_the_model, of_a_term, a_choice}

-- ---- a choice by one rule is one by another that it implies

chosen_by : (P Q : Trail → Option Atom → Type 0) → ((s : Trail) (choice : Option Atom) → P s choice → Q s choice) → (s : CoreSearch) (m : Trail) (t : Atom) → DecidesOf P s m t → DecidesOf Q s m t
chosen_by P Q w s m t (of_the_model none next) = of_the_model none next
chosen_by P Q w s m t (of_a_term closed few none place first is) = of_a_term closed few none place first is
chosen_by P Q w s m t (a_choice closed all chosen) = a_choice closed all (w m (Some t) chosen)

decides_by : (P Q : Trail → Option Atom → Type 0) → ((s : Trail) (choice : Option Atom) → P s choice → Q s choice) → (m t : CoreSearch) (p q : Part) → DecidesFrom P m t p q → DecidesFrom Q m t p q
decides_by P Q w m t p q h = record { atom = h.atom; undecided = h.undecided; chosen = chosen_by P Q w m m.search.store h.atom h.chosen; is = h.is; part = h.part }

caused_by : (P Q : Trail → Option Atom → Type 0) → ((s : Trail) (choice : Option Atom) → P s choice → Q s choice) → (s t : CoreSearch) (rows : ℕ) (p q : Part) (turn : Turn) → CoreCaused P s t rows p q turn → CoreCaused Q s t rows p q turn
caused_by P Q w s t rows p q turns.Imported h = h
caused_by P Q w s t rows p q turns.Decided h = record { midway = h.midway; part = h.part; due = h.due; setting = h.setting; same = h.same; on = decides_by P Q w h.midway t h.part q h.on }
caused_by P Q w s t rows p q turns.Learnt h = h
caused_by P Q w s t rows p q turns.Found h = h
caused_by P Q w s t rows p q turns.Exhausted h = h
caused_by P Q w s t rows p q turns.SawClosed h = h
caused_by P Q w s t rows p q (turns.Spent clause below) h = h
caused_by P Q w s t rows p q turns.RoundsDone h = h
caused_by P Q w s t rows p q (turns.Reformed base) h = h

takes_by : (P Q : Trail → Option Atom → Type 0) → ((s : Trail) (choice : Option Atom) → P s choice → Q s choice) → (s t : CoreSearch) (rows : ℕ) (p q : Part) (turn : Turn) → TakesCoreTurn P s t rows p q turn → TakesCoreTurn Q s t rows p q turn
takes_by P Q w s t rows p q turn h = record { running = h.running; setting = h.setting; store = h.store; cause = caused_by P Q w s t rows p q turn h.cause; moves = h.moves; ends = h.ends; lowers = h.lowers }

-- ---- what the turn does to the brancher

heard_by : (hears hears' : List Atom → Bool → Type 0) → ((clause : List Atom) (restart : Bool) → hears clause restart → hears' clause restart) → (s t : Search) → HeardOne hears s t → HeardOne hears' s t
heard_by hears hears' w s t h = record {
  clause = h.clause;
  learnt = h.learnt;
  heard = record { restart = h.heard.restart; said = w h.clause h.heard.restart h.heard.said; restarts = h.heard.restarts; goes_on = h.heard.goes_on };
}

brancher_by : (turn : Turn) (heard heard' chose chose' same same' : Type 0) → (heard → heard') → (chose → chose') → (same → same') → BrancherTurn turn heard chose same → BrancherTurn turn heard' chose' same'
brancher_by turns.Imported heard heard' chose chose' same same' f g h k = h k
brancher_by turns.Decided heard heard' chose chose' same same' f g h k = g k
brancher_by turns.Learnt heard heard' chose chose' same same' f g h k = f k
brancher_by turns.Found heard heard' chose chose' same same' f g h k = h k
brancher_by turns.Exhausted heard heard' chose chose' same same' f g h k = h k
brancher_by turns.SawClosed heard heard' chose chose' same same' f g h k = h k
brancher_by (turns.Spent clause below) heard heard' chose chose' same same' f g h k = h k
brancher_by turns.RoundsDone heard heard' chose chose' same same' f g h k = h k
brancher_by (turns.Reformed base) heard heard' chose chose' same same' f g h k = h k

either_by : (a b c d : Type 0) → (a → c) → (b → d) → a ⊎ b → c ⊎ d
either_by a b c d f g (inl x) = inl (f x)
either_by a b c d f g (inr x) = inr (g x)

module _ {B : Type 0} (branching : B → Branching) (chooses : B → Trail → Option Atom → Type 0) (hears : B → List Atom → Bool → B → Type 0) (stays : B → B → Type 0)
    (chooses_as : (b : B) (s : Trail) (choice : Option Atom) → chooses b s choice → ChoosesAs (branching b) s choice)
    (hears_as : (b c : B) (clause : List Atom) (restart : Bool) → hears b clause restart c → HearsAs (branching b) clause restart (branching c))
    (stays_as : (b c : B) → stays b c → StaysAs (branching b) (branching c))
    (rows : ℕ) where
  pub core_turn_by : (s t : CoreSearch × B) (p q : Part) (turn : Turn) → OneCoreTurn chooses hears stays rows s t p q turn
      → OneCoreTurn ChoosesAs HearsAs StaysAs rows (s.0, branching s.1) (t.0, branching t.1) p q turn
  core_turn_by s t p q turn h = record {
    before = h.before;
    after = h.after;
    search = takes_by (chooses s.1) (ChoosesAs (branching s.1)) (chooses_as s.1) s.0 t.0 rows p q turn h.search;
    brancher = brancher_by turn _ _ _ _ _ _
        (heard_by (λ clause restart. hears s.1 clause restart t.1) (λ clause restart. HearsAs (branching s.1) clause restart (branching t.1)) (λ clause restart. hears_as s.1 t.1 clause restart) s.0.search t.0.search)
        (either_by (stays s.1 t.1) (t.1 ≡ s.1) (StaysAs (branching s.1) (branching t.1)) (branching t.1 ≡ branching s.1) (stays_as s.1 t.1) (λ same. ap branching same)) (λ same. ap branching same) h.brancher;
  }

-- Runs of a worker go by what is seen of its brancher.
use Rattle.std.specs.Prelude.{Bool}
use Rattle.std.proofs.Common.{ℕ, inl, inr, Option, Some, List, ap}
use Rattle.cps_literal.specs.declared.atom.Atom.{Atom}
use Rattle.cps_trail.specs.Trail.{Trail}
use Rattle.cps_port.specs.declared.part.Part.{Part}
use Rattle.cps_search.specs.declared.end.End.{End}
use Rattle.cps_search.specs.declared.turn.Turn.{Turn}
use Rattle.cps_search.specs.declared.turn.Turn.TheVariants as turns
use Rattle.cps_search.specs.Searches.{Search}
use Rattle.cps_search.specs.Ends.{BrancherTurn, HeardOne, IsDecidedNext, OneTurn, RunsInTurns, TakesTurn, TakesTurns, TurnCaused, none_yet, one_more}
use Rattle.cps_search.specs.Guided.{RunsBy}
use Rattle.cps_branch.specs.Guidances.{Branching, ChoosesAs, HearsAs, StaysAs}

-- a choice by one rule is one by another that it implies
next_by : (P Q : Trail → Option Atom → Type 0) → ((s : Trail) (choice : Option Atom) → P s choice → Q s choice) → (s : Search) (t : Atom) → IsDecidedNext P s t → IsDecidedNext Q s t
next_by P Q w s t h = elim h [ inl assumed ↦ inl assumed | inr chosen ↦ inr (chosen.0, w s.store (Some t) chosen.1) ]

caused_by : (P Q : Trail → Option Atom → Type 0) → ((s : Trail) (choice : Option Atom) → P s choice → Q s choice) → (s t : Search) (rows : ℕ) (p q : Part) (turn : Turn) → TurnCaused P s t rows p q turn → TurnCaused Q s t rows p q turn
caused_by P Q w s t rows p q turns.Imported h = h
caused_by P Q w s t rows p q turns.Decided h = record { midway = h.midway; due = h.due; atom = h.atom; undecided = h.undecided; next = next_by P Q w h.midway h.atom h.next; is = h.is }
caused_by P Q w s t rows p q turns.Learnt h = h
caused_by P Q w s t rows p q turns.Found h = h
caused_by P Q w s t rows p q turns.Exhausted h = h
caused_by P Q w s t rows p q turns.SawClosed h = h
caused_by P Q w s t rows p q (turns.Spent clause below) h = h
caused_by P Q w s t rows p q turns.RoundsDone h = h
caused_by P Q w s t rows p q (turns.Reformed base) h = h

takes_by : (P Q : Trail → Option Atom → Type 0) → ((s : Trail) (choice : Option Atom) → P s choice → Q s choice) → (s t : Search) (rows : ℕ) (p q : Part) (turn : Turn) → TakesTurn P s t rows p q turn → TakesTurn Q s t rows p q turn
takes_by P Q w s t rows p q turn h = record { setting = h.setting; store = h.store; cause = caused_by P Q w s t rows p q turn h.cause; moves = h.moves; ends = h.ends; lowers = h.lowers }

heard_by : (hears hears' : List Atom → Bool → Type 0) → ((clause : List Atom) (restart : Bool) → hears clause restart → hears' clause restart) → (s t : Search) → HeardOne hears s t → HeardOne hears' s t
heard_by hears hears' w s t h = record {
  clause = h.clause;
  learnt = h.learnt;
  heard = record { restart = h.heard.restart; said = w h.clause h.heard.restart h.heard.said; restarts = h.heard.restarts; goes_on = h.heard.goes_on };
}

brancher_by : (turn : Turn) (heard heard' chose chose' same same' : Type 0) → (heard → heard') → (chose → chose') → (same → same') → BrancherTurn turn heard chose same → BrancherTurn turn heard' chose' same'
brancher_by turns.Imported heard heard' chose chose' same same' f g h k = h k
brancher_by turns.Decided heard heard' chose chose' same same' f g h k = g k
brancher_by turns.Learnt heard heard' chose chose' same same' f g h k = f k
brancher_by turns.Found heard heard' chose chose' same same' f g h k = h k
brancher_by turns.Exhausted heard heard' chose chose' same same' f g h k = h k
brancher_by turns.SawClosed heard heard' chose chose' same same' f g h k = h k
brancher_by (turns.Spent clause below) heard heard' chose chose' same same' f g h k = h k
brancher_by turns.RoundsDone heard heard' chose chose' same same' f g h k = h k
brancher_by (turns.Reformed base) heard heard' chose chose' same same' f g h k = h k

module _ {B : Type 0} (branching : B → Branching) (chooses : B → Trail → Option Atom → Type 0) (hears : B → List Atom → Bool → B → Type 0) (stays : B → B → Type 0)
    (chooses_as : (b : B) (s : Trail) (choice : Option Atom) → chooses b s choice → ChoosesAs (branching b) s choice)
    (hears_as : (b c : B) (clause : List Atom) (restart : Bool) → hears b clause restart c → HearsAs (branching b) clause restart (branching c))
    (stays_as : (b c : B) → stays b c → StaysAs (branching b) (branching c))
    (rows : ℕ) where
  abbrev seen : Search × B → Search × Branching
  seen s = (s.0, branching s.1)

  pub turn_by : (s t : Search × B) (p q : Part) (turn : Turn) → OneTurn chooses hears stays rows s t p q turn → OneTurn ChoosesAs HearsAs StaysAs rows (seen s) (seen t) p q turn
  turn_by s t p q turn h = record {
    before = h.before;
    after = h.after;
    search = takes_by (chooses s.1) (ChoosesAs (branching s.1)) (chooses_as s.1) s.0 t.0 rows p q turn h.search;
    brancher = brancher_by turn _ _ _ _ _ _
        (heard_by (λ clause restart. hears s.1 clause restart t.1) (λ clause restart. HearsAs (branching s.1) clause restart (branching t.1)) (λ clause restart. hears_as s.1 t.1 clause restart) s.0 t.0)
        (λ decided. elim decided [ inl stays ↦ inl (stays_as s.1 t.1 stays) | inr same ↦ inr (ap branching same) ]) (λ same. ap branching same) h.brancher;
  }

  turns_by : (s : Search × B) (p : Part) (t : Search × B) (q : Part) → TakesTurns chooses hears stays rows s p t q → TakesTurns ChoosesAs HearsAs StaysAs rows (seen s) p (seen t) q
  turns_by s p t q none_yet = none_yet
  turns_by s p t q (one_more m u n r turn before goes_on last) = one_more (seen m) (seen u) n r turn (turns_by s p m n before) goes_on (turn_by m u n r turn last)

  pub runs_by : (s t : Search × B) (p q : Part) (end : End) → RunsInTurns chooses hears stays rows s t p q end → RunsBy rows (seen s) (seen t) p q end
  runs_by s t p q end h = record {
    before = seen h.before;
    part = h.part;
    turns = turns_by s p h.before h.part h.turns;
    turn = h.turn;
    last = turn_by h.before t h.part q h.turn h.last;
    ended = h.ended;
  }

-- What steps on the words of a board are to those who share it: events of `cps_port`, one after another, each lawful
-- where it comes, and between them steps that no other seat can tell, on the words of a row. The table shows the board
-- of a shared state, in which a seat is the actor of its number.
use Rattle.std.specs.Prelude.{◌≡◌, ℕ, ◌+◌, ◌-◌, ◌*◌, ◌%◌, ◌<◌, ◌^◌, ◌↔◌, false, List, [], ◌∷◌, ◌++◌, map, length, slice_index, Some, None}
use mathlib.Core.Option.{some, none}
use lib.ListN.{get_elem?}
use Rattle.atomic_table.specs.Table.{State, Me, Step, step, stepped, keeps}
use Rattle.cps_model.specs.declared.model.CpModel.{CpModel}
use Rattle.cps_port.specs.declared.entry.Entry.{Entry}
use Rattle.cps_port.specs.declared.event.Event.{Event}
use Rattle.cps_port.specs.declared.event.Event.TheVariants.{Draw, Publish, Look, Offer, Raise, SeeUpper, SeeLower}
use Rattle.cps_port.specs.Parts.{no_rows}
use Rattle.cps_port.specs.Shared.{BoardState, Shared, first_shared, row_at}
use Rattle.cps_port.specs.Sound.{run, AreLawful}
use Rattle.cps_board.specs.declared.view.View.{View}
use Rattle.cps_board.specs.Coding.{entry_from}
use Rattle.cps_board.specs.Rows.{row_words, data_words, IsOpen, KeptRows, row_drawn, word_put, row_opened, row_looked_at, word_read}

-- the words of the rows, and what each seat knows
abbrev pub RowTable : Type 0
RowTable = State (Unit {0}) View

-- The table shows this board: a row has an entry just where it is open with it, the first word counts the draws, and
-- each seat knows what the actor of its number knows.
pub record Shows (s : RowTable) (b : BoardState) : Type 0 where
  pub size : length s.homes ≡ length b.rows
  pub rows : (row : ℕ) (e : Entry) → (row_at b row ≡ Some e) ↔ IsOpen (length s.homes) s.words row e
  pub next : slice_index s.words 0 ≡ b.next
  pub parts : map (λ (v : View). v.part) s.views ≡ b.parts

-- what the rule tells a seat of a step: the step, the seat before it, the word that was found, and the seat after it
abbrev pub Tells : Type 1
Tells = Step (Unit {0}) → Me (Unit {0}) View → ℕ → Me (Unit {0}) View → Type 0

-- of a store it tells by the word that was stored
abbrev pub of_stored : Tells → Tells
of_stored tells = λ st me found me'. tells st me st.first me'

-- One atomic operation by the seat `id`, with an operand: it makes `becomes` of the word in one place, and the seat then
-- knows what it was told. The rule holds after it, as after each operation on the table.
pub record IsStep (m : CpModel) (tells : Tells) (becomes : ℕ → ℕ) (place operand id : ℕ) (old : View) (s t : RowTable)
    : Type 0 where
  pub new : View
  pub seat : get_elem? s.views id ≡ some old
  pub told : tells (step (length s.homes) place operand 0 none) (old, []) (slice_index s.words place) (new, [])
  pub state : t ≡ stepped s place (becomes (slice_index s.words place)) id [] new keeps
  pub kept : KeptRows m t

-- a draw, by a seat that has no row and has not drawn past the last one
abbrev pub Draws : CpModel → RowTable → ℕ → RowTable → Type 0
Draws m s id t = (old : View) × IsStep m row_drawn (λ n. (n + 1) % 2 ^ 64) 0 1 id old s t
    × (old.part.full ≡ false) × (old.part.drawn ≡ None)

-- the flag of the row that was drawn is set; the entry is that of the words that were stored
abbrev pub Publishes : CpModel → RowTable → ℕ → Entry → RowTable → Type 0
Publishes m s id e t = (old : View) × IsStep m (of_stored row_opened) (λ _. 1) (row_words * e.row + 1) 1 id old s t
    × (old.part.drawn ≡ Some e.row) × (e ≡ entry_from e.row old.written)

-- A look at the flag of the next row, of which one is left. The count of looks that found it closed is below the last
-- value that a plain state can store.
abbrev pub Looks : CpModel → RowTable → ℕ → RowTable → Type 0
Looks m s id t = (old : View)
    × IsStep m row_looked_at (λ n. n) (row_words * length old.part.taken + 1) 0 id old s t
    × (length old.part.taken < length s.homes) × (old.part.misses < 2 ^ 64 - 1)

-- the next word of the row that was drawn
abbrev pub Puts : CpModel → RowTable → ℕ → ℕ → RowTable → Type 0
Puts m s id word t = (old : View) × (row : ℕ)
    × IsStep m (of_stored word_put) (λ _. word) (row_words * row + (length old.written + 2)) word id old s t
    × (old.part.drawn ≡ Some row) × (length old.written < data_words)

-- a word of any place
abbrev pub Reads : CpModel → RowTable → ℕ → ℕ → RowTable → Type 0
Reads m s id place t = (old : View) × IsStep m word_read (λ n. n) place 0 id old s t

-- what a seat does to the table in one step
pub data Operation : Type 0 where
  makes : Event → Operation
  puts : ℕ → Operation
  reads : ℕ → Operation

-- the operation of an event, with what its caller owes
abbrev pub Makes : CpModel → RowTable → ℕ → Event → RowTable → Type 0
Makes m s id Draw t = Draws m s id t
Makes m s id (Publish e) t = Publishes m s id e t
Makes m s id Look t = Looks m s id t
Makes m s id (Offer v) t = ⊥
Makes m s id (Raise l) t = ⊥
Makes m s id SeeUpper t = ⊥
Makes m s id SeeLower t = ⊥

abbrev pub Does : CpModel → RowTable → ℕ → Operation → RowTable → Type 0
Does m s id (makes e) t = Makes m s id e t
Does m s id (puts word) t = Puts m s id word t
Does m s id (reads place) t = Reads m s id place t

-- operations of seats, one after another
abbrev pub DoesAll : CpModel → RowTable → List (ℕ × Operation) → RowTable → Type 0
DoesAll m s [] t = t ≡ s
DoesAll m s (o ∷ os) t = (u : RowTable) × Does m s o.0 o.1 u × DoesAll m u os t

-- the events among them
abbrev pub event_of : ℕ → Operation → List (ℕ × Event)
event_of id (makes e) = (id, e) ∷ []
event_of id (puts word) = []
event_of id (reads place) = []

abbrev pub events_of : List (ℕ × Operation) → List (ℕ × Event)
events_of [] = []
events_of (o ∷ os) = event_of o.0 o.1 ++ events_of os

-- the events are lawful, the table shows what they make of the board, and they leave the bounds
pub record AreEvents (c : Shared) (events : List (ℕ × Event)) (t : RowTable) : Type 0 where
  pub lawful : AreLawful c events
  pub shown : Shows t (run c events).board
  pub bounds : (run c events).bounds ≡ c.bounds

-- Between two splits or joins of seats, whatever seats do and in whatever order is lawful events of the state that the
-- table shows.
abbrev pub StepsAreEvents : Type 0
StepsAreEvents = (c : Shared) (s t : RowTable) (operations : List (ℕ × Operation)) → KeptRows c.model s
    → Shows s c.board → DoesAll c.model s operations t → AreEvents c (events_of operations) t

-- while no seat has done anything, the table shows the first state, of as many actors and rows
abbrev pub ShowsFirst : Type 0
ShowsFirst = (m : CpModel) (s : RowTable) → KeptRows m s
    → ((i : ℕ) (v : View) → get_elem? s.views i ≡ some v → v.part ≡ no_rows)
    → Shows s (first_shared m (length s.views) (length s.homes)).board

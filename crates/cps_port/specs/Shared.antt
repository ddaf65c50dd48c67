-- The state that all actors share, and what each event makes of it. An event is one step: events of several actors may
-- come in any order.
use Rattle.std.specs.Prelude.{◌≡◌, ℕ, ◌+◌, ◌-◌, ◌<◌, ◌≤◌, ◌^◌, nat_lt, false, if◌then◌else◌, ℤ, List, All, replicate, length, slice_index_or, slice_set, Option, Some, None, IsTrue}
use Rattle.cps_model.specs.declared.bound.Bound.{Bound}
use Rattle.cps_model.specs.declared.bound.Bound.TheVariants.{At, Infinite}
use Rattle.cps_model.specs.declared.model.CpModel.{CpModel}
use Rattle.cps_model.specs.Solutions.{objective_value, IsFree, IsSolution}
use Rattle.cps_model.specs.Start.{objective_start}
use Rattle.cps_model.specs.Statuses.{IsAtMost}
use Rattle.cps_literal.specs.Truth.{clause_holds}
use Rattle.cps_port.specs.declared.entry.Entry.{Entry}
use Rattle.cps_port.specs.declared.event.Event.{Event}
use Rattle.cps_port.specs.declared.event.Event.TheVariants.{Draw, Publish, Look, Offer, Raise, SeeUpper, SeeLower}
use Rattle.cps_port.specs.declared.event.Seen.{Seen}
use Rattle.cps_port.specs.declared.event.Seen.TheVariants as sights
use Rattle.cps_port.specs.declared.part.BoardPart.{BoardPart}
use Rattle.cps_port.specs.declared.part.BoundsPart.{BoundsPart}
use Rattle.cps_port.specs.declared.part.Part.{Part}
use Rattle.cps_port.specs.Order.{BoundLe, IsBelow, lesser, greater}
use Rattle.cps_port.specs.Incumbents.{IsAttained, IsIncumbent}
use Rattle.cps_port.specs.Entries.{most_atoms, entry_clause, IsShareable}
use Rattle.cps_port.specs.Parts.{no_rows, no_bounds, with_row, with_past, with_mine, with_taken, with_misses, after_upper, after_lower, after_offer, after_raise}

-- the board: an entry for each row that is published, and none for each other row; how many rows were drawn, with the
-- draws past the last row; and what each actor knows of it
pub record BoardState : Type 0 where
  pub rows : List (Option Entry)
  pub next : ℕ
  pub parts : List BoardPart

-- the two bounds, and what each actor knows of them
pub record BoundsState : Type 0 where
  pub upper : Bound
  pub lower : Bound
  pub parts : List BoundsPart

pub record Shared : Type 0 where
  pub model : CpModel
  pub board : BoardState
  pub bounds : BoundsState

abbrev pub first_shared : CpModel → ℕ → ℕ → Shared
first_shared m actors rows = record {
  model = m;
  board = record { rows = replicate rows None; next = 0; parts = replicate actors no_rows };
  bounds = record { upper = Infinite; lower = At (objective_start m); parts = replicate actors no_bounds };
}

-- what an actor knows; an actor that is none knows what a newcomer knows
abbrev pub board_part : BoardState → ℕ → BoardPart
board_part b actor = slice_index_or b.parts actor no_rows

abbrev pub bounds_part : BoundsState → ℕ → BoundsPart
bounds_part s actor = slice_index_or s.parts actor no_bounds

abbrev pub part_at : Shared → ℕ → Part
part_at c actor = record { board = board_part c.board actor; bounds = bounds_part c.bounds actor }

abbrev pub actor_count : Shared → ℕ
actor_count c = length c.board.parts

abbrev pub row_at : BoardState → ℕ → Option Entry
row_at b row = slice_index_or b.rows row None

abbrev pub with_board : BoardState → ℕ → BoardPart → BoardState
with_board b actor p = record b { parts = slice_set b.parts actor p }

abbrev pub with_bounds : BoundsState → ℕ → BoundsPart → BoundsState
with_bounds s actor p = record s { parts = slice_set s.parts actor p }

-- a count of 64 bits rises, or stands still at its last value
abbrev pub counted : ℕ → ℕ
counted n = if nat_lt n (2 ^ 64 - 1) then n + 1 else n

abbrev pub drawn_by : BoardPart → ℕ → ℕ → BoardPart
drawn_by p next rows = if nat_lt next rows then with_row p next else with_past p

abbrev pub looked_by : BoardPart → Option Entry → BoardPart
looked_by p None = with_misses p (counted p.misses)
looked_by p (Some e) = with_taken p e

-- the row at which an actor looks
abbrev pub next_row : BoardState → ℕ → Option Entry
next_row b actor = row_at b (length (board_part b actor).taken)

-- the row that a draw gives
abbrev pub row_drawn : BoardState → Option ℕ
row_drawn b = if nat_lt b.next (length b.rows) then Some b.next else None

-- the board after an event of an actor
abbrev pub board_after : BoardState → ℕ → Event → BoardState
board_after b i Draw = record (with_board b i (drawn_by (board_part b i) b.next (length b.rows))) { next = b.next + 1 }
board_after b i (Publish e) = record (with_board b i (with_mine (board_part b i) e)) {
  rows = slice_set b.rows e.row (Some e);
}
board_after b i Look = with_board b i (looked_by (board_part b i) (next_row b i))
board_after b i (Offer v) = b
board_after b i (Raise l) = b
board_after b i SeeUpper = b
board_after b i SeeLower = b

-- the bounds after an event of an actor
abbrev pub bounds_after : BoundsState → ℕ → Event → BoundsState
bounds_after s i (Offer v) = record (with_bounds s i (after_offer (bounds_part s i) (At v) (lesser s.upper (At v)))) {
  upper = lesser s.upper (At v);
}
bounds_after s i (Raise l) = record (with_bounds s i (after_raise (bounds_part s i) l (greater s.lower l))) {
  lower = greater s.lower l;
}
bounds_after s i SeeUpper = with_bounds s i
    (after_upper (bounds_part s i) s.upper (counted (bounds_part s i).upper_loads))
bounds_after s i SeeLower = with_bounds s i
    (after_lower (bounds_part s i) s.lower (counted (bounds_part s i).lower_loads))
bounds_after s i Draw = s
bounds_after s i (Publish e) = s
bounds_after s i Look = s

abbrev pub after : Shared → ℕ → Event → Shared
after c i event = record c { board = board_after c.board i event; bounds = bounds_after c.bounds i event }

abbrev pub drawn_now : Option ℕ → Seen
drawn_now None = sights.Past
drawn_now (Some row) = sights.Row row

abbrev pub looked_at : Option Entry → Seen
looked_at None = sights.Shut
looked_at (Some e) = sights.Open e

-- what the actor sees of its event
abbrev pub seen : Shared → ℕ → Event → Seen
seen c i Draw = drawn_now (row_drawn c.board)
seen c i (Publish e) = sights.Done
seen c i Look = looked_at (next_row c.board i)
seen c i (Offer v) = sights.Word (lesser c.bounds.upper (At v))
seen c i (Raise l) = sights.Word (greater c.bounds.lower l)
seen c i SeeUpper = sights.Word c.bounds.upper
seen c i SeeLower = sights.Word c.bounds.lower

-- of the entries, those that hold below at least the bound are true at the assignment
abbrev pub AreTrueBelow : List Entry → Bound → List ℤ → Type 0
AreTrueBelow taken z a = All (λ e. BoundLe z e.below → IsTrue (clause_holds (entry_clause e) a)) taken

-- An entry that an actor may publish: it names the row that the actor drew, and its clause follows below its incumbent,
-- with the help of what the actor took.
pub record MayPublish (m : CpModel) (p : BoardPart) (e : Entry) : Type 0 where
  pub drawn : p.drawn ≡ Some e.row
  pub fits : e.len ≤ most_atoms
  pub clause : IsShareable m (entry_clause e)
  pub incumbent : IsIncumbent m e.below
  pub follows : (a : List ℤ) → IsFree m a → IsBelow (objective_value m a) e.below → AreTrueBelow p.taken e.below a
      → IsTrue (clause_holds (entry_clause e) a)

-- A bound to which an actor may raise: no solution better than some incumbent has an objective below it, with the help
-- of what the actor took.
pub record MayRaise (m : CpModel) (p : BoardPart) (l : Bound) : Type 0 where
  pub better_than : Bound
  pub incumbent : IsIncumbent m better_than
  pub within : BoundLe l better_than
  pub follows : (a : List ℤ) → IsSolution m a → IsBelow (objective_value m a) better_than
      → AreTrueBelow p.taken better_than a → IsAtMost l (objective_value m a)

-- an event that the actor may make
abbrev pub IsLawful : Shared → ℕ → Event → Type 0
IsLawful c i Draw = ((board_part c.board i).full ≡ false) × ((board_part c.board i).drawn ≡ None)
IsLawful c i (Publish e) = MayPublish c.model (board_part c.board i) e
IsLawful c i Look = length (board_part c.board i).taken < length c.board.rows
IsLawful c i (Offer v) = IsAttained c.model v
IsLawful c i (Raise l) = MayRaise c.model (board_part c.board i) l
IsLawful c i SeeUpper = Unit {0}
IsLawful c i SeeLower = Unit {0}

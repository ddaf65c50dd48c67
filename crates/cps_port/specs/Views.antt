-- How the shared state is stored: a row has its entry once it is published, with the number of the actor that did; an
-- actor has a count of the rows that it took.
use Rattle.std.specs.Prelude.{◌≡◌, ℕ, ◌+◌, ◌<◌, ◌≤◌, ◌^◌, ◌==◌, Bool, false, ◌&&◌, if◌then◌else◌, List, [], ◌∷◌, map, take, length, slice_index_or, Option, Some, None}
use Rattle.cps_model.specs.declared.bound.Bound.{Bound}
use Rattle.cps_model.specs.declared.bound.Bound.TheVariants.{Infinite}
use Rattle.cps_model.specs.declared.model.CpModel.{CpModel}
use Rattle.cps_port.specs.declared.entry.Entry.{Entry}
use Rattle.cps_port.specs.declared.part.BoardPart.{BoardPart}
use Rattle.cps_port.specs.declared.part.BoundsPart.{BoundsPart}
use Rattle.cps_port.specs.declared.seat.Row.{Row}
use Rattle.cps_port.specs.declared.seat.Seat.{Seat}
use Rattle.cps_port.specs.Entries.{entry_of}
use Rattle.cps_port.specs.Shared.{Shared}
use Rattle.cps_port.specs.Kept.{IsStateKept}

-- a row that is not published, and an actor before its first event
abbrev pub no_row : Row
no_row = record { published = false; owner = 0; entry = entry_of 0 Infinite [] }

abbrev pub no_seat : Seat
no_seat = record { drawn = None; taken = 0; full = false; misses = 0 }

abbrev pub row_entry : Row → Option Entry
row_entry r = if r.published then Some r.entry else None

-- a row that an actor published
abbrev pub is_own : ℕ → Row → Bool
is_own actor r = r.published && (r.owner == actor)

abbrev pub own_entries : ℕ → List Row → List Entry
own_entries actor [] = []
own_entries actor (r ∷ rs) = if is_own actor r then r.entry ∷ own_entries actor rs else own_entries actor rs

abbrev pub first_entries : ℕ → List Row → List Entry
first_entries count rows = take count (map (λ (r : Row). r.entry) rows)

abbrev pub seat_part : List Row → ℕ → Seat → BoardPart
seat_part rows actor s =
    record { drawn = s.drawn; mine = own_entries actor rows; taken = first_entries s.taken rows; full = s.full; misses = s.misses }

-- the parts of actors, of whom the first has the number i
abbrev pub seat_parts : List Row → ℕ → List Seat → List BoardPart
seat_parts rows i [] = []
seat_parts rows i (s ∷ ss) = seat_part rows i s ∷ seat_parts rows (i + 1) ss

abbrev pub shared_of : CpModel → List Row → ℕ → List Seat → Bound → Bound → List BoundsPart → Shared
shared_of m rows next seats upper lower bounds = record {
  model = m;
  board = record { rows = map row_entry rows; next = next; parts = seat_parts rows 0 seats };
  bounds = record { upper = upper; lower = lower; parts = bounds };
}

abbrev pub row_of : List Row → ℕ → Row
row_of rows row = slice_index_or rows row no_row

abbrev pub seat_of : List Seat → ℕ → Seat
seat_of seats actor = slice_index_or seats actor no_seat

-- what holds of the state as it is stored
pub record IsStateStored (rows : List Row) (seats : List Seat) : Type 0 where
  pub actors : length seats < 2 ^ 32
  pub taken : (i : ℕ) → (seat_of seats i).taken ≤ length rows
  -- an actor's own rows come before the one that it drew
  pub ordered : (i row k : ℕ) → (seat_of seats i).drawn ≡ Some row → row ≤ k → is_own i (row_of rows k) ≡ false

pub record IsWhole (c : Shared) (rows : List Row) (seats : List Seat) : Type 0 where
  pub kept : IsStateKept c
  pub stored : IsStateStored rows seats

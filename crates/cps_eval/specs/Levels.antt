-- Lists of events that are read in order of time.
use Rattle.std.specs.Prelude.{ℕ, ◌+◌, ◌<◌, ◌≤◌, nat_le, Bool, ◌||◌, if◌then◌else◌, ℤ, pos, ◌≤ℤ◌, int_lt, neg_ℤ, unsigned_abs, List, [], ◌∷◌, length, slice_index_or}
use Rattle.std.specs.List.{list_all}
use Rattle.cps_model.specs.declared.parts.Event.{Event}
use Rattle.cps_model.specs.declared.parts.Use.{Use}
use Rattle.cps_model.specs.Rules.{is_small}

-- no time is less than one before it
abbrev pub AreInOrder : List Event → Type 0
AreInOrder es = (i j : ℕ) (d : Event) → i ≤ j → j < length es
    → (slice_index_or es i d).time ≤ℤ (slice_index_or es j d).time

-- each change is small
abbrev pub has_small_change : Event → Bool
has_small_change e = is_small (unsigned_abs e.change)

abbrev pub have_small_changes : List Event → Bool
have_small_changes es = list_all has_small_change es

-- what is read past the end
abbrev pub no_event : Event
no_event = record { time = pos 0; change = pos 0 }

abbrev pub time_at : List Event → ℕ → ℤ
time_at es k = (slice_index_or es k no_event).time

-- of events in order, whether none after the one at k has its time
abbrev pub is_last_of_time : List Event → ℕ → Bool
is_last_of_time es k = nat_le (length es) (k + 1) || int_lt (time_at es k) (time_at es (k + 1))

-- A use as a change of the load: its demand comes as it starts, and goes as it ends. Where it ends before it starts, or
-- as it starts, it is no change.
abbrev pub load_changes : List Use → List Event
load_changes [] = []
load_changes (u ∷ us) =
    if int_lt u.start u.end then
    record { time = u.start; change = u.demand } ∷ record { time = u.end; change = neg_ℤ u.demand } ∷ load_changes us
    else load_changes us

-- each demand is small
abbrev pub has_small_demand : Use → Bool
has_small_demand u = is_small (unsigned_abs u.demand)

abbrev pub have_small_demands : List Use → Bool
have_small_demands us = list_all has_small_demand us

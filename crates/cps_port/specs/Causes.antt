-- Why a plain port answers as it does. What its actor did alone is the only cause: an answer cannot be made up.
use Rattle.std.specs.Prelude.{◌≡◌, ℕ, ◌+◌, ◌-◌, ◌<◌, ◌^◌, length, None}
use Rattle.cps_model.specs.declared.bound.Bound.{Bound}
use Rattle.cps_port.specs.Parts.{after_upper}
use Rattle.cps_port.specs.Says.{FoundClosed}
use Rattle.cps_port.specs.Shared.{Shared, board_part, bounds_part, next_row, actor_count}
use Rattle.cps_port.specs.Sound.{IsSoundShared}
use Rattle.cps_port.specs.Others.{ActsAlone, OthersStay}

-- what one actor does leaves all that the others know
abbrev pub LeavesOthers : Type 0
LeavesOthers = (actor actor' : ℕ) (old new : Shared) → ActsAlone actor actor' old new → OthersStay actor actor' old new

-- an actor that found its next row closed looked at a row that was closed; its count of such looks was below the last
-- value
abbrev pub ClosedWasClosed : Type 0
ClosedWasClosed = (actor : ℕ) (old new : Shared) → ActsAlone actor actor old new
    → FoundClosed (length old.board.rows) (board_part old.board actor) (board_part new.board actor)
    → (board_part old.board actor).misses < 2 ^ 64 - 1 → next_row old.board actor ≡ None

-- an actor that loaded the upper bound saw the bound that stood
abbrev pub SawTheUpper : Type 0
SawTheUpper = (actor loads : ℕ) (old new : Shared) (seen : Bound) → IsSoundShared old → actor < actor_count old
    → ActsAlone actor actor old new
    → bounds_part new.bounds actor ≡ after_upper (bounds_part old.bounds actor) seen loads
    → loads ≡ (bounds_part old.bounds actor).upper_loads + 1
    → seen ≡ old.bounds.upper

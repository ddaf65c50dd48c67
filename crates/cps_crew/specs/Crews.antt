-- Seats at the shared tables, before workers search there and after it, and what the seats knew together.
use Rattle.std.specs.Prelude.{◌≡◌, ◌↔◌, ℕ, ◌+◌, ◌<◌, Bool, false, IsTrue, Some, IfSome, length, List, All, slice_index_or, map}
use Rattle.std.specs.List.{range_with_len}
use Rattle.cps_model.specs.declared.bound.Bound.{Bound}
use Rattle.cps_model.specs.declared.model.CpModel.{CpModel}
use Rattle.cps_bounds.specs.declared.seats.Bounds.{Bounds}
use Rattle.cps_board.specs.declared.seats.Board.{Board}
use Rattle.cps_bounds.specs.Seats as words
use Rattle.cps_board.specs.Seats as boards
use Rattle.cps_port.specs.declared.part.BoundsPart.{BoundsPart}
use Rattle.cps_port.specs.declared.part.Part.{Part}
use Rattle.cps_port.specs.Parts.{newcomer}
use Rattle.cps_port.specs.Order.{BoundLe, IsNoLower, raised_above}
use Rattle.cps_model.specs.Statuses.{is_closed}
use Rattle.cps_search.specs.declared.end.End.{End}
use Rattle.cps_search.specs.declared.end.WorkerKind.TheVariants as kinds
use Rattle.cps_search.specs.declared.end.Phase.TheVariants.{Over}
use Rattle.cps_search.specs.Ends.{Ending, IsHonestEnding}
use Rattle.cps_options.specs.declared.options.Options.{Options}
use Rattle.cps_options.specs.Ranges.{AreInRange}
use Rattle.cps_search.specs.Following.{best_bound}
use Rattle.cps_crew.specs.declared.seats.Seated.{Seated}
use Rattle.cps_crew.specs.Ports.{part_of, SeatsStay}
use Rattle.cps_crew.specs.Workers.{AnySearch, search_in, kind_in, ending_in, worker_kind, SearchesNear, BeginsAs, DrawsBy, HasEnded}
use Rattle.cps_crew.specs.Outcomes.{GoesByModel, HasSums, SpentOnlyIf, best_of, greatest_raised}

-- ---- seats

abbrev pub part_at : Seated → Part
part_at c = part_of c.port.board_seat c.port.bounds_seat

abbrev pub words_part : Seated → BoundsPart
words_part c = words.part_of c.port.bounds_seat

abbrev pub words_splits : Seated → ℕ
words_splits c = words.splits_of c.port.bounds_seat

-- seats of this number at the two tables, that know nothing
pub record IsSeated (board : Board) (bounds : Bounds) (number : ℕ) (c : Seated) : Type 0 where
  pub number_is : c.number ≡ number
  pub board_is : c.port.board.now ≡ board
  pub bounds_is : c.port.bounds.now ≡ bounds
  pub new : part_at c ≡ newcomer

-- seats of so many workers, by number
pub record IsCrew (board : Board) (bounds : Bounds) (crew : List Seated) : Type 0 where
  pub each : (i : ℕ) (d : Seated) → i < length crew → IsSeated board bounds i (slice_index_or crew i d)

-- seats at these tables
abbrev pub IsBackAt : Board → Bounds → Seated → Type 0
IsBackAt board bounds c = (c.port.board.now ≡ board) × (c.port.bounds.now ≡ bounds)

-- ---- workers that search

-- seats at which a worker of the model may be made, which suits it, with a pool of the same model, which is read just
-- where one of the workers searches near solutions
pub record MayWork (suits : CpModel → Type 0) (m : CpModel) (o : Options) (pool : CpModel) (is_read : Bool)
    (c : Seated) : Type 0 where
  pub range : AreInRange o
  pub suited : suits m
  pub number : c.number < o.workers
  pub found : pool ≡ m
  pub reads : IsTrue is_read ↔ SearchesNear o.workers
  pub words : words.model_of c.port.bounds.now ≡ m

-- the worker of this number, which knew nothing at first, took its turns up to its end; where it draws, it does so by
-- the seed and its number
pub record HasSearched (m : CpModel) (o : Options) (number rows : ℕ) (p q : Part) (e : Ending) : Type 0 where
  pub first : AnySearch
  pub last : AnySearch
  pub begins : BeginsAs m o first
  pub draws : DrawsBy o.seed number first
  pub kind : kind_in last ≡ worker_kind number
  pub ended : HasEnded rows first last p q
  pub over : (search_in last).phase ≡ Over e.end
  pub is : e ≡ ending_in last e.end

-- the worker of these seats took its turns up to its end, or ran out of memory
pub record Worked (m : CpModel) (o : Options) (a b : Seated) : Type 0 where
  pub seats : SeatsStay a.port.board.now b.port.board.now a.port.bounds.now b.port.bounds.now
      a.port.board_seat b.port.board_seat a.port.bounds_seat b.port.bounds_seat
  pub ended : IfSome b.ended (HasSearched m o a.number (boards.rows_of a.port.board.now) (part_at a) (part_at b))

-- ---- workers that have ended

-- the last look of an actor showed that the bounds had not met
pub record LastSawOpen (gap : ℕ) (q : BoundsPart) : Type 0 where
  pub lower : Bound
  pub saw_lower : q.saw_lower ≡ Some lower
  pub open_yet : is_closed lower q.saw_upper gap ≡ false

-- the worker of this number ended honestly, by its guidance, its cores or its rounds
pub record IsHonestlyDone (m : CpModel) (o : Options) (number : ℕ) (q : BoundsPart) (s : AnySearch) : Type 0 where
  pub end : End
  pub over : (search_in s).phase ≡ Over end
  pub honest : IsHonestEnding m o.gap o.conflicts q (ending_in s end)
  pub sums : HasSums (kind_in s) m (search_in s).instance.defs
  pub goes : GoesByModel m o number (ending_in s end)
  pub looked : kind_in s ≡ kinds.Fixed → SpentOnlyIf (LastSawOpen o.gap q) end

-- the worker of this number as it is seen after it ended honestly
pub record IsHonestEnd (m : CpModel) (o : Options) (q : BoundsPart) (number : ℕ) (e : Ending) : Type 0 where
  pub kind : e.kind ≡ worker_kind number
  pub honest : IsHonestEnding m o.gap o.conflicts q e
  pub sums : HasSums e.kind m e.defs
  pub goes : GoesByModel m o number e

-- the worker of this number has ended honestly, or ran out of memory
pub record HasReturned (m : CpModel) (o : Options) (board : Board) (bounds : Bounds) (number : ℕ) (c : Seated)
    : Type 0 where
  pub board_is : c.port.board.now ≡ board
  pub bounds_is : c.port.bounds.now ≡ bounds
  pub done : IfSome c.ended (IsHonestEnd m o (words_part c) number)

pub record HaveReturned (m : CpModel) (o : Options) (board : Board) (bounds : Bounds) (crew : List Seated)
    : Type 0 where
  pub each : (i : ℕ) (d : Seated) → i < length crew → HasReturned m o board bounds i (slice_index_or crew i d)

-- a worker ended honestly, and saw nothing better than what a seat knows
pub record EndedSeen (m : CpModel) (gap conflicts : ℕ) (k : BoundsPart) (e : Ending) : Type 0 where
  pub part : BoundsPart
  pub ended : IsHonestEnding m gap conflicts part e
  pub sums : HasSums e.kind m e.defs
  pub above : BoundLe k.saw_upper part.saw_upper
  pub below : (b : Bound) → IsNoLower k.saw_lower b → IsNoLower part.saw_lower b

-- the ends of so many workers, from one number on, whose seats were joined to one that had offered and raised nothing
pub record AreGathered (m : CpModel) (o : Options) (first count : ℕ) (k : BoundsPart) (ends : List Ending)
    : Type 0 where
  pub kinds : map (λ (e : Ending). e.kind) ends ≡ map worker_kind (range_with_len first count)
  pub offered : k.offered ≡ best_bound m (best_of m ends)
  pub raised : (start : Bound) → raised_above k.raised start ≡ greatest_raised start ends
  pub each : All (EndedSeen m o.gap o.conflicts k) ends
  pub goes : (i : ℕ) (d : Ending) → i < length ends → GoesByModel m o (first + i) (slice_index_or ends i d)

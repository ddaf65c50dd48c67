-- Workers that take turns over one state, and which of them takes the next turn.
use Rattle.std.specs.Prelude.{◌≡◌, ℕ, zero, suc, ◌+◌, ◌<◌, ◌%◌, true, false, if◌then◌else◌, List, [], ◌∷◌, map, length, slice_index_or, slice_set}
use Rattle.rand_pcg.specs.Lcg.{Lcg, started, increment_of}
use Rattle.rand_pcg.specs.Pcg.{multiplier_64, pcg32}
use Rattle.cps_model.specs.declared.model.CpModel.{CpModel}
use Rattle.cps_options.specs.declared.options.Options.{Options}
use Rattle.cps_port.specs.declared.part.Part.{Part}
use Rattle.cps_port.specs.Entries.{most_rows}
use Rattle.cps_port.specs.Parts.{newcomer}
use Rattle.cps_port.specs.Shared.{Shared, part_at, first_shared}
use Rattle.cps_port.specs.Others.{ActsAlone}
use Rattle.cps_port.specs.Totals.{total}
use Rattle.cps_search.specs.declared.end.End.{End}
use Rattle.cps_search.specs.declared.end.End.TheVariants as ends
use Rattle.cps_search.specs.declared.end.Phase.{Phase}
use Rattle.cps_search.specs.declared.end.Phase.TheVariants.{Stepping, Deciding, Over}
use Rattle.cps_search.specs.Ends.{Ending, IsOver}
use Rattle.cps_crew.specs.declared.interleaved.Turning.{Turning}
use Rattle.cps_crew.specs.Workers.{AnySearch, search_in, kind_in, ending_in, worker_kind, BeginsAs, DrawsBy, TakesTurnsAs, HasTurned}
use Rattle.cps_crew.specs.Crews.{IsHonestlyDone}

-- ---- workers that have turns left

-- the worker of this number, which may take a turn: it knew nothing at first, and took its turns so far
pub record AtWork (m : CpModel) (o : Options) (number : ℕ) (s : AnySearch) (q : Part) : Type 0 where
  pub first : AnySearch
  pub begins : BeginsAs m o first
  pub draws : DrawsBy o.seed number first
  pub turns : TakesTurnsAs most_rows first s newcomer q
  pub running : IsOver (search_in s).phase → ⊥

module _ {W : Type 0} (known : W → AnySearch) where
  -- the worker of this number is at work, or has ended honestly
  pub record IsTurning (m : CpModel) (o : Options) (c : Shared) (number : ℕ) (w : Turning W) : Type 0 where
    pub kind : kind_in (known w.worker) ≡ worker_kind number
    pub at_work : w.over ≡ false → AtWork m o number (known w.worker) (part_at c number)
    pub done : w.over ≡ true → IsHonestlyDone m o number (part_at c number).bounds (known w.worker)

  pub record AreTurning (m : CpModel) (o : Options) (c : Shared) (crew : List (Turning W)) : Type 0 where
    pub each : (i : ℕ) (d : Turning W) → i < length crew → IsTurning m o c i (slice_index_or crew i d)

  -- the worker of this number, which knows nothing yet; where it draws, it does so by the seed and its number
  pub record IsFresh (m : CpModel) (o : Options) (number : ℕ) (w : Turning W) : Type 0 where
    pub begins : BeginsAs m o (known w.worker)
    pub kind : kind_in (known w.worker) ≡ worker_kind number
    pub draws : DrawsBy o.seed number (known w.worker)
    pub not_over : w.over ≡ false

  pub record AreFresh (m : CpModel) (o : Options) (crew : List (Turning W)) : Type 0 where
    pub each : (i : ℕ) (d : Turning W) → i < length crew → IsFresh m o i (slice_index_or crew i d)

module _ {W : Type 0} where
  abbrev pub one_at_work : Turning W → ℕ
  one_at_work w = if w.over then 0 else 1

  -- how many workers have not ended
  abbrev pub count_at_work : List (Turning W) → ℕ
  count_at_work crew = total one_at_work crew

-- ---- what is seen of workers that have ended

abbrev pub end_of_phase : Phase → End
end_of_phase Stepping = ends.RoundsDone
end_of_phase Deciding = ends.RoundsDone
end_of_phase (Over end) = end

module _ {W : Type 0} (known : W → AnySearch) where
  abbrev pub ended_of : Turning W → Ending
  ended_of w = ending_in (known w.worker) (end_of_phase (search_in (known w.worker)).phase)

-- ---- the drawn schedule

module _ {W : Type 0} where
  -- the number of the worker of this rank among those that have not ended
  abbrev pub place_at_work : List (Turning W) → ℕ → ℕ
  place_at_work [] rank = 0
  place_at_work (w ∷ ws) zero = if w.over then 1 + place_at_work ws 0 else 0
  place_at_work (w ∷ ws) (suc rank) = 1 + place_at_work ws (if w.over then suc rank else rank)

  -- the worker whose turn is next: the generator's next word, modulo the number of workers that have not ended, is its
  -- rank among these
  abbrev pub drawn_place : List (Turning W) → Lcg → ℕ
  drawn_place crew words = place_at_work crew ((pcg32 words).0 % count_at_work crew)

-- the generator of a seed
abbrev pub words_of_seed : ℕ → Lcg
words_of_seed seed = started 64 multiplier_64 seed (increment_of 64 0)

module _ {W : Type 0} (known : W → AnySearch) where
  -- the worker at this place took a turn, alone at the state, and is `next` after it, of the same kind and with the
  -- same guidance
  pub record TakesTurnAt (place rows : ℕ) (c d : Shared) (crew : List (Turning W)) (next : Turning W) : Type 0 where
    pub some_left : 0 < count_at_work crew
    pub alone : ActsAlone place place c d
    pub turned : HasTurned rows (known (slice_index_or crew place next).worker) (known next.worker)
        (part_at c place) (part_at d place) next.over

  -- turns one after another, each of the worker that was drawn
  pub data TakesDrawnTurns (rows : ℕ) (c : Shared) (crew : List (Turning W)) (words : Lcg)
      : Shared → List (Turning W) → Lcg → Type 0 where
    none_yet : TakesDrawnTurns rows c crew words c crew words
    one_more : (d e : Shared) (later : List (Turning W)) (next : Turning W) (left : Lcg)
        → TakesDrawnTurns rows c crew words d later left → TakesTurnAt (drawn_place later left) rows d e later next
        → TakesDrawnTurns rows c crew words e (slice_set later (drawn_place later left) next) (pcg32 left).1

  -- these are the ends of workers that knew nothing at first, and took drawn turns until all had ended
  pub record IsDrawnBy (m : CpModel) (options : Options) (rows : ℕ) (es : List Ending) : Type 0 where
    pub crew : List (Turning W)
    pub count : length crew ≡ options.workers
    pub begins : AreFresh known m options crew
    pub core : Shared
    pub last : List (Turning W)
    pub words : Lcg
    pub turns : TakesDrawnTurns rows (first_shared m options.workers rows) crew
        (words_of_seed options.seed) core last words
    pub all_over : count_at_work last ≡ 0
    pub seen : es ≡ map (ended_of known) last

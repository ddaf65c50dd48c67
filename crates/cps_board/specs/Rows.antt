-- The rule of the board, and what each step tells.
-- Word 0 counts the draws. Row r has 35 words from word 35 * r + 1 on: its flag, which is 0 while it is closed, and 34
-- words of content.
use Rattle.std.specs.Prelude.{◌≡◌, ◌≢◌, ℕ, ◌+◌, ◌-◌, ◌*◌, ◌/◌, ◌<◌, ◌≤◌, nat_lt, true, if◌then◌else◌, List, [], ◌∷◌, ◌++◌, length, min, slice_index, Some, None}
use mathlib.Core.Option.{some}
use lib.ListN.{get_elem?}
use Rattle.atomic_table.specs.Table.{State, Me, Step}
use Rattle.cps_model.specs.declared.model.CpModel.{CpModel}
use Rattle.cps_port.specs.declared.entry.Entry.{Entry}
use Rattle.cps_port.specs.declared.part.BoardPart.{BoardPart}
use Rattle.cps_port.specs.Entries.{entry_clause, IsSoundEntry}
use Rattle.cps_port.specs.Parts.{no_rows, with_row, with_past, with_mine, with_taken, with_misses}
use Rattle.cps_port.specs.Says.{OwnEntry}
use Rattle.cps_port.specs.Totals.{total, one_if, one_if_some, times}
use Rattle.cps_board.specs.declared.view.View.{View}
use Rattle.cps_board.specs.Coding.{entry_words, entry_from, IsCodedEntry}

-- all splits of a table
abbrev pub all_splits : ℕ
all_splits = 4294967296

-- the words of a row, and those of its content
abbrev pub row_words : ℕ
row_words = 35

abbrev pub data_words : ℕ
data_words = 34

abbrev pub flag : List ℕ → ℕ → ℕ
flag ws row = slice_index ws (row_words * row + 1)

abbrev pub datum : List ℕ → ℕ → ℕ → ℕ
datum ws row k = slice_index ws (row_words * row + (k + 2))

-- the row's content begins with these words
pub record HasData (ws : List ℕ) (row : ℕ) (d : List ℕ) : Type 0 where
  pub fits : length d ≤ data_words
  pub each : (k : ℕ) → k < length d → datum ws row k ≡ slice_index d k

-- an open row that has this entry, of n rows
pub record IsOpen (n : ℕ) (ws : List ℕ) (row : ℕ) (e : Entry) : Type 0 where
  pub within : row < n
  pub flag_set : flag ws row ≢ 0
  pub named : e.row ≡ row
  pub coded : IsCodedEntry e
  pub words : HasData ws row (entry_words e.below (entry_clause e))

-- a row that is drawn, into which these words were written
pub record IsFilling (n : ℕ) (ws : List ℕ) (row : ℕ) (written : List ℕ) : Type 0 where
  pub within : row < n
  pub closed : flag ws row ≡ 0
  pub words : HasData ws row written

-- how often a row is a view's: drawn and not yet published, or published
abbrev pub owns : ℕ → View → ℕ
owns row v = one_if_some row v.part.drawn + times (λ (e : Entry). e.row) row v.part.mine

-- the draws past the last row that a view may have made
abbrev pub past : View → ℕ
past v = if v.part.full then v.splits else 0

-- what a seat knows of the words, of n rows
pub record FitsRowWords (m : CpModel) (n : ℕ) (ws : List ℕ) (v : View) : Type 0 where
  pub model : 0 < v.splits → v.model ≡ Some m
  -- a seat without splits has drawn nothing
  pub idle : v.splits ≡ 0 → v.draws ≡ 0
  pub drawn : (row : ℕ) → v.part.drawn ≡ Some row → IsFilling n ws row v.written
  pub mine : (i : ℕ) (e : Entry) → get_elem? v.part.mine i ≡ some e → IsOpen n ws e.row e
  -- what a seat took are the first rows, in order
  pub taken : (row : ℕ) (e : Entry) → get_elem? v.part.taken row ≡ some e → IsOpen n ws row e

-- an open row has a sound entry
abbrev pub HasSound : CpModel → ℕ → List ℕ → ℕ → Type 0
HasSound m n ws row = (e : Entry) × IsOpen n ws row e × IsSoundEntry m e

pub record KeptRows {S : Type 0} (m : CpModel) (s : State S View) : Type 0 where
  pub wide : length s.words ≡ row_words * length s.homes + 1
  pub splits : total (λ (v : View). v.splits) s.views ≡ all_splits
  -- each seat draws at most once past the last row
  pub draws : slice_index s.words 0 ≤ length s.homes + total past s.views
  pub counted : slice_index s.words 0 ≡ total (λ (v : View). v.draws) s.views
  -- a row below the count of draws is one seat's, once
  pub owned : (row : ℕ) → row < length s.homes → total (owns row) s.views ≡ one_if (nat_lt row (slice_index s.words 0))
  pub sound : (row : ℕ) → row < length s.homes → flag s.words row ≢ 0 → HasSound m (length s.homes) s.words row
  pub claimed : (row : ℕ) → row < length s.homes → flag s.words row ≢ 0 → row < slice_index s.words 0
  pub each : (i : ℕ) (v : View) → get_elem? s.views i ≡ some v → FitsRowWords m (length s.homes) s.words v

abbrev pub first_view : CpModel → View
first_view m = record { model = Some m; splits = all_splits; draws = 0; written = []; part = no_rows }

-- what a join leaves of the other seat
abbrev pub spent : View
spent = record { model = None; splits = 0; draws = 0; written = []; part = no_rows }

abbrev pub kept_half : View → View
kept_half v = record v { splits = v.splits - v.splits / 2 }

-- a new seat took what the old one took, and has published nothing
abbrev pub newly : BoardPart → BoardPart
newly p = record p { drawn = None; mine = [] }

abbrev pub given_half : View → View
given_half v = record { model = v.model; splits = v.splits / 2; draws = 0; written = []; part = newly v.part }

-- a, and what b has beyond it
abbrev pub longer : {A : Type 0} → List A → List A → List A
longer [] b = b
longer (x ∷ xs) [] = x ∷ xs
longer (x ∷ xs) (y ∷ ys) = x ∷ longer xs ys

-- what two seats know together: both took rows from the first one on, so the longer list has the shorter one's entries.
-- The count of misses is the first one's.
abbrev pub both_parts : BoardPart → BoardPart → BoardPart
both_parts p q = record p {
  mine = p.mine ++ q.mine;
  taken = longer p.taken q.taken;
  full = if p.full then true else q.full;
}

-- the splits of two seats are never more than all: the rule knows so, and a seat alone does not
abbrev pub joined : View → View → View
joined v w = record v {
  splits = min (v.splits + w.splits) all_splits;
  draws = v.draws + w.draws;
  part = both_parts v.part w.part;
}

abbrev pub with_part : View → BoardPart → View
with_part v p = record v { part = p }

-- after a draw, with what was written into the row
abbrev pub drawing : View → BoardPart → View
drawing v p = record v { draws = v.draws + 1; written = []; part = p }

abbrev pub filling : View → List ℕ → View
filling v words = record v { written = words }

abbrev pub OfBoardModel : View → (CpModel → Type 0) → Type 0
OfBoardModel v fact = (m : CpModel) → v.model ≡ Some m → fact m

-- what a look at an open row tells of its entry
pub record Took (v : View) (e : Entry) : Type 0 where
  pub next : e.row ≡ length v.part.taken
  pub coded : IsCodedEntry e
  pub own : OwnEntry v.part (length v.part.taken) (λ d. d ≡ e)
  pub sound : OfBoardModel v (λ m. IsSoundEntry m e)

module _ {S : Type 0} where
  -- there are as many rows as slots
  abbrev pub row_drawn : Step S → Me S View → ℕ → Me S View → Type 0
  row_drawn st me row me' = (row < st.slots → me' ≡ (drawing me.0 (with_row me.0.part row), me.1))
      × (st.slots ≤ row → me' ≡ (drawing me.0 (with_past me.0.part), me.1))

  abbrev pub word_put : Step S → Me S View → ℕ → Me S View → Type 0
  word_put st me word me' = me' ≡ (filling me.0 (me.0.written ++ word ∷ []), me.1)

  abbrev pub row_opened : Step S → Me S View → ℕ → Me S View → Type 0
  row_opened st me word me' = (row : ℕ) → me.0.part.drawn ≡ Some row
      → me' ≡ (with_part me.0 (with_mine me.0.part (entry_from row me.0.written)), me.1)

  abbrev pub row_looked_at : Step S → Me S View → ℕ → Me S View → Type 0
  row_looked_at st me word me' =
      (word ≡ 0 → (me' ≡ (with_part me.0 (with_misses me.0.part (me.0.part.misses + 1)), me.1))
      × OwnEntry me.0.part (length me.0.part.taken) (λ _. ⊥))
      × (word ≢ 0 → (e : Entry) × (me' ≡ (with_part me.0 (with_taken me.0.part e), me.1)) × Took me.0 e)

  -- a word of an open row that the seat took
  abbrev pub word_read : Step S → Me S View → ℕ → Me S View → Type 0
  word_read st me word me' = (me' ≡ me)
      × ((row k : ℕ) (e : Entry) → st.word ≡ row_words * row + (k + 2) → get_elem? me.0.part.taken row ≡ some e
      → k < length (entry_words e.below (entry_clause e)) → word ≡ slice_index (entry_words e.below (entry_clause e)) k)

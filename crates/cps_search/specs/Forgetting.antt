-- When learnt clauses may be dropped.
use Rattle.std.specs.Prelude.{◌≡◌, ℕ, ◌+◌, ◌-◌, ◌/◌, ◌%◌, ◌<◌, List, [], ◌∷◌, ⊤}
use Rattle.cps_clauses.specs.declared.journal.JournalItem.{JournalItem}
use Rattle.cps_clauses.specs.declared.journal.JournalItem.TheVariants.{Learnt, Drop}

-- the number of learnt clauses after each of which some may be dropped
abbrev pub drop_interval : ℕ
drop_interval = 2000

-- A clause may be dropped if `learnt` is a positive multiple of the interval, and after it at least half of the clauses
-- that stood when the last one was learnt still stand, rounded down.
pub record IsDropDue (learnt stood stand : ℕ) : Type 0 where
  pub some_learnt : 0 < learnt
  pub interval : learnt % drop_interval ≡ 0
  pub half_stays : stood / 2 < stand

-- each clause was dropped where that was due, after so many were learnt, of which so many stood when the last was and
-- so many stand
abbrev pub DropsWhenDueFrom : ℕ → ℕ → ℕ → List JournalItem → Type 0
DropsWhenDueFrom learnt stood stand [] = ⊤
DropsWhenDueFrom learnt stood stand (Learnt clause below ∷ items) = DropsWhenDueFrom (learnt + 1) (stand + 1)
    (stand + 1) items
DropsWhenDueFrom learnt stood stand (Drop i ∷ items) = IsDropDue learnt stood stand
    × DropsWhenDueFrom learnt stood (stand - 1) items

abbrev pub DropsWhenDue : List JournalItem → Type 0
DropsWhenDue journal = DropsWhenDueFrom 0 0 0 journal

-- how many learnt clauses stand after these items, and how many stood when the last was learnt, as `DropsWhenDueFrom`
-- counts them
abbrev pub stand_after : ℕ → List JournalItem → ℕ
stand_after stand [] = stand
stand_after stand (Learnt clause below ∷ items) = stand_after (stand + 1) items
stand_after stand (Drop i ∷ items) = stand_after (stand - 1) items

abbrev pub stood_after : ℕ → ℕ → List JournalItem → ℕ
stood_after stood stand [] = stood
stood_after stood stand (Learnt clause below ∷ items) = stood_after (stand + 1) (stand + 1) items
stood_after stood stand (Drop i ∷ items) = stood_after stood (stand - 1) items

-- nothing was dropped since the last clause was learnt
abbrev pub DroppedNoneSince : List JournalItem → Type 0
DroppedNoneSince journal = stood_after 0 0 journal ≡ stand_after 0 journal

-- no clause was dropped
abbrev pub DropsNothing : List JournalItem → Type 0
DropsNothing [] = ⊤
DropsNothing (Learnt clause below ∷ items) = DropsNothing items
DropsNothing (Drop i ∷ items) = ⊥

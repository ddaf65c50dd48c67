-- What the answers of a port say.
use Rattle.std.specs.Prelude.{◌≡◌, ℕ, ◌<◌, List, Contains, length, false, Option}
use Rattle.cps_model.specs.declared.bound.Bound.{Bound}
use Rattle.cps_model.specs.declared.model.CpModel.{CpModel}
use Rattle.cps_literal.specs.declared.atom.Atom.{Atom}
use Rattle.cps_port.specs.declared.entry.Entry.{Entry}
use Rattle.cps_port.specs.declared.entry.Share.{Share}
use Rattle.cps_port.specs.declared.entry.Share.TheVariants.{Row, Full}
use Rattle.cps_port.specs.declared.entry.Taken.{Taken}
use Rattle.cps_port.specs.declared.entry.Taken.TheVariants as answers
use Rattle.cps_port.specs.declared.part.BoardPart.{BoardPart}
use Rattle.cps_port.specs.Order.{BoundLe, IsNoLower, Rises, lesser, greater}
use Rattle.cps_port.specs.Incumbents.{IsIncumbent, IsLowerBound}
use Rattle.cps_port.specs.Entries.{entry_of, IsSoundEntry}
use Rattle.cps_port.specs.Parts.{with_mine, with_taken, with_misses, full_now}

-- each of the actor's own entries of this row meets the fact
abbrev pub OwnEntry : BoardPart → ℕ → (Entry → Type 0) → Type 0
OwnEntry p row fact = (e : Entry) → Contains p.mine e → e.row ≡ row → fact e

-- a row was there, and has the clause for good
pub record SharedIn (rows row : ℕ) (below : Bound) (c : List Atom) (old new : BoardPart) : Type 0 where
  pub within : row < rows
  pub had_room : old.full ≡ false
  pub adds : new ≡ with_mine old (entry_of row below c)

abbrev pub ShareSays : ℕ → Bound → List Atom → BoardPart → BoardPart → Share → Type 0
ShareSays rows below c old new (Row row) = SharedIn rows row below c old new
ShareSays rows below c old new Full = new ≡ full_now old

-- the next row was open
pub record TookEntry (m : CpModel) (rows : ℕ) (old new : BoardPart) (e : Entry) : Type 0 where
  pub left : length old.taken < rows
  pub next : e.row ≡ length old.taken
  pub sound : IsSoundEntry m e
  pub own : OwnEntry old (length old.taken) (λ d. d ≡ e)
  pub takes : new ≡ with_taken old e

-- the next row was closed: so it is none of the actor's own
pub record FoundClosed (rows : ℕ) (old new : BoardPart) : Type 0 where
  pub left : length old.taken < rows
  pub foreign : OwnEntry old (length old.taken) (λ _. ⊥)
  pub misses : Rises old.misses new.misses
  pub counts : new ≡ with_misses old new.misses

-- each row was taken
pub record TookAll (rows : ℕ) (old new : BoardPart) : Type 0 where
  pub all : length old.taken ≡ rows
  pub same : new ≡ old

abbrev pub TakeSays : CpModel → ℕ → BoardPart → BoardPart → Taken → Type 0
TakeSays m rows old new (answers.Entry e) = TookEntry m rows old new e
TakeSays m rows old new answers.NotYet = FoundClosed rows old new
TakeSays m rows old new answers.End = TookAll rows old new

-- the answer is the lesser of the value and an upper bound that stood, which was no worse than any seen before
pub record AnswersOffer (m : CpModel) (saw value answer : Bound) : Type 0 where
  pub stood : Bound
  pub no_worse : BoundLe stood saw
  pub shown : IsIncumbent m stood
  pub is : answer ≡ lesser stood value

-- the answer is the greater of the bound and a lower bound that stood, which was no worse than any seen before
pub record AnswersRaise (m : CpModel) (saw : Option Bound) (bound answer : Bound) : Type 0 where
  pub stood : Bound
  pub no_worse : IsNoLower saw stood
  pub shown : IsLowerBound m stood
  pub is : answer ≡ greater stood bound

-- How a neighbourhood worker that did its rounds ends.
use Rattle.std.specs.Prelude.{◌≡◌, None}
use Rattle.cps_port.specs.declared.part.Part.{Part}
use Rattle.cps_search.specs.declared.end.End.TheVariants as ends
use Rattle.cps_search.specs.declared.end.Phase.TheVariants.{Over}
use Rattle.cps_search.specs.declared.turn.Turn.{Turn}
use Rattle.cps_search.specs.declared.turn.Turn.TheVariants as turns
use Rattle.cps_search.specs.Following.{MovesWith}
use Rattle.cps_search.specs.Moves.{below}
use Rattle.cps_search.specs.Searches.{Search}
use Rattle.cps_search.specs.Turns.{SameSetting, SawMet, SawOpen}

-- The two bounds had not met, and the worker ends as its rounds are done. Nothing was taken from the board, and no log
-- is kept.
pub record RoundsOver (s t : Search) (p q : Part) : Type 0 where
  pub bounds : SawOpen s p.bounds q.bounds t.z
  pub board : q.board ≡ p.board
  pub is : t ≡ record (below s t.z) { log = None; phase = Over ends.RoundsDone }

-- the cause of the last turn of a worker that did its rounds
abbrev pub EndsRoundsBy : Search → Search → Part → Part → Turn → Type 0
EndsRoundsBy s t p q turns.Imported = ⊥
EndsRoundsBy s t p q turns.Decided = ⊥
EndsRoundsBy s t p q turns.Learnt = ⊥
EndsRoundsBy s t p q turns.Found = ⊥
EndsRoundsBy s t p q turns.Exhausted = ⊥
EndsRoundsBy s t p q turns.SawClosed = SawMet s t p q
EndsRoundsBy s t p q (turns.Spent clause below) = ⊥
EndsRoundsBy s t p q turns.RoundsDone = RoundsOver s t p q
EndsRoundsBy s t p q (turns.Reformed base) = ⊥

-- what that turn does; the log, if one was kept, is let go
pub record EndsRounds (s t : Search) (p q : Part) (turn : Turn) : Type 0 where
  pub setting : SameSetting (record s { log = None }) t
  pub store : t.store ≡ s.store
  pub cause : EndsRoundsBy s t p q turn
  pub moves : MovesWith s t p q

-- What a core-guided turn does to the brancher.
use Rattle.std.proofs.Common.{Option}
use Rattle.cps_literal.specs.declared.atom.Atom.{Atom}
use Rattle.cps_trail.specs.Trail.{Trail}
use Rattle.cps_port.specs.declared.part.Part.{Part}
use Rattle.cps_search.specs.Ends.{BrancherTurn}
use Rattle.cps_search.specs.declared.turn.Turn.{Turn}
use Rattle.cps_search.specs.declared.turn.Turn.TheVariants as turns
use Rattle.cps_core_guided.specs.CoreTurns.{GoesOn}
use Rattle.cps_core_guided.specs.Reforming.{CoreSearch}

-- a reform, or the end in place of one
pub on-brancher : (chooses : Trail → Option Atom → Type 0) (m t : CoreSearch) (p q : Part) (turn : Turn) (heard chose same : Type 0) → GoesOn chooses m t p q turn → (same → chose) → same → BrancherTurn turn heard chose same
on-brancher chooses m t p q turns.Imported heard chose same on f h = h
on-brancher chooses m t p q turns.Decided heard chose same on f h = f h
on-brancher chooses m t p q turns.Learnt heard chose same on f h = absurd on
on-brancher chooses m t p q turns.Found heard chose same on f h = h
on-brancher chooses m t p q turns.Exhausted heard chose same on f h = h
on-brancher chooses m t p q turns.SawClosed heard chose same on f h = h
on-brancher chooses m t p q (turns.Spent clause below) heard chose same on f h = h
on-brancher chooses m t p q turns.RoundsDone heard chose same on f h = h
on-brancher chooses m t p q (turns.Reformed base) heard chose same on f h = h

-- a turn that heard nothing
pub heard-brancher : (turn : Turn) (heard chose same : Type 0) → BrancherTurn turn ⊥ chose same → BrancherTurn turn heard chose same
heard-brancher turns.Imported heard chose same h = h
heard-brancher turns.Decided heard chose same h = h
heard-brancher turns.Learnt heard chose same h = absurd h
heard-brancher turns.Found heard chose same h = h
heard-brancher turns.Exhausted heard chose same h = h
heard-brancher turns.SawClosed heard chose same h = h
heard-brancher (turns.Spent clause below) heard chose same h = h
heard-brancher turns.RoundsDone heard chose same h = h
heard-brancher (turns.Reformed base) heard chose same h = h

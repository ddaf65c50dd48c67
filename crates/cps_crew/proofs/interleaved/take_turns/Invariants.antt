-- The workers took drawn turns so far, and each is at work or has ended honestly.
use Rattle.std.proofs.Common.{◌≡◌, ℕ, length, None}
use Rattle.cps_port.specs.Entries.{most_rows}
use Rattle.cps_port.specs.Shared.{actor_count, board_part}
use Rattle.cps_crew.specs.Turning.{AreTurning, TakesDrawnTurns, words_of_seed}
use Rattle.cps_crew.proofs.DrawnTurns.{total_by, weigh}
use Rattle.cps_crew.proofs.interleaved.take_turns.Given as goal

abbrev pub invariant-turns : goal.invariant-turns
invariant-turns g l = record {
  count : actor_count l.port.core.now ≡ actor_count l.initial.port.core.now;
  model : l.port.core.now.model ≡ l.initial.port.core.now.model;
  rows : length l.port.core.now.board.rows ≡ most_rows;
  idle : (i : ℕ) → (board_part l.port.core.now.board i).drawn ≡ None;
  pool : l.pool.model ≡ l.initial.port.core.now.model;
  is_read : l.pool.is_read ≡ l.initial.pool.is_read;
  crew : AreTurning g.W.Member.known l.initial.port.core.now.model l.options l.port.core.now l.crew;
  drawn : TakesDrawnTurns g.W.Member.known most_rows l.initial.port.core.now l.initial.crew (words_of_seed l.options.seed) l.port.core.now l.crew l.words;
}

abbrev pub decreases-turns : goal.decreases-turns
decreases-turns g l = total_by (weigh g.W.Member.known most_rows l.port.core.now) l.crew

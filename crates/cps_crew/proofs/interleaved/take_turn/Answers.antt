-- The port's actor is the one that it was before the turn.
use Rattle.std.proofs.Common.{◌≡◌, ℕ, None, IfOk, refl, subst, length}
use Rattle.cps_port.specs.Shared.{board_part, part_at}
use Rattle.cps_crew.specs.Workers.{HasTurned}
use Rattle.cps_crew.proofs.interleaved.take_turn.Goals as goal

pub returns-clause-idle : goal.returns-clause-idle
returns-clause-idle g c = let k = c.turn.ensures.keeps.others in subst (λ (n : ℕ). (board_part c.turn.new.port.core.now.board n).drawn ≡ None) k.same c.turn.new.port.idle

pub returns-clause-alone : goal.returns-clause-alone
returns-clause-alone g c = let k = c.turn.ensures.keeps.others in record { same = refl; events = k.events; lawful = k.lawful; reaches = k.reaches }

pub returns-clause-turn : goal.returns-clause-turn
returns-clause-turn g c =
    let k = c.turn.ensures.keeps.others in
    subst (λ (n : ℕ). IfOk c.turn.result (HasTurned (length c.args.port.now.core.now.board.rows) (g.W.Member.known c.args.worker.now) (g.W.Member.known c.turn.new.self) (part_at c.args.port.now.core.now c.args.actor) (part_at c.turn.new.port.core.now n))) k.same c.turn.ensures.turn

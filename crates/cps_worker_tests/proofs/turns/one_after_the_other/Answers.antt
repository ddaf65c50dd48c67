-- What the first worker did leaves the part of the second as it was at first.
use Rattle.std.proofs.Common.{◌≡◌, ◌∙◌, length, ap, arith}
use Rattle.cps_port.proofs.ActorEvents.{others_stay}
use Rattle.cps_port.specs.Shared.{Shared, actor_count, board_part}
use Rattle.cps_port.specs.declared.part.Part.{Part}
use Rattle.cps_worker_tests.proofs.turns.one_after_the_other.Goals as goal

pub invariant_of-port-2 : goal.invariant_of-port-2
invariant_of-port-2 c =
    let ran = c.turns_in_order-first.ensures in
    let first = c.in_ok-core.ensures.first in
    let stay = others_stay _ _ _ _ ran.keeps.others in
    let count : actor_count c.turns_in_order-first.new.port.core.now ≡ 2 = stay.count ∙ ap actor_count first in
    let rows : length c.turns_in_order-first.new.port.core.now.board.rows ≡ 4 = ran.keeps.rows ∙ ap (λ (x : Shared). length x.board.rows) first in
    record {
      known = omega (count, arith);
      idle = ap (λ (p : Part). p.board.drawn) (stay.parts 1 (λ (e : 1 ≡ 0). omega (e, arith))) ∙ ap (λ (x : Shared). (board_part x.board 1).drawn) first;
      few = omega (rows, arith);
    }

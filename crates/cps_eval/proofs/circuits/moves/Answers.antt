-- One arc more that is no loop, or one that is, and none that is left.
use Rattle.std.proofs.Common.{◌∙◌, sym, refl, arith}
use Rattle.cps_model.specs.Circuits.{moves}
use Rattle.cps_eval.proofs.Circling.{moves-more, moves-less}
use Rattle.cps_eval.proofs.Computing.{all_done}
use Rattle.cps_eval.proofs.circuits.moves.Goals as goal

pub loop-arc-preserved-then-is_loop : goal.loop-arc-preserved-then-is_loop
loop-arc-preserved-then-is_loop c = moves-less c.args.arcs.now c.loop-arc.found.items _ c.loop-arc.arc-index (omega arith) (sym c.is_loop.ensures ∙ c.if-is_loop.true) c.loop-arc.invariant

pub loop-arc-preserved : goal.loop-arc-preserved
loop-arc-preserved c =
    rw c.in_ok-push.ensures.items (moves-more c.args.arcs.now c.loop-arc.found.items _ c.loop-arc.arc-index (omega arith) (sym c.is_loop.ensures ∙ c.if-is_loop.false) c.loop-arc.invariant)

pub returns : goal.returns
returns c = all_done moves c.args.arcs.now c.loop-arc.found.items _ c.loop-arc.arc-index refl (omega arith) c.loop-arc.invariant

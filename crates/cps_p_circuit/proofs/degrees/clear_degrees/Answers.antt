use Rattle.cps_p_circuit.proofs.Counting.{still_nothing, one_longer}
use Rattle.cps_p_circuit.proofs.degrees.clear_degrees.Goals as goal

pub loop-preserved : goal.loop-preserved
loop-preserved c = record {
  len = one_longer _ _ _ _ c.in_ok-push.ensures.items c.loop.invariant.len;
  none = still_nothing _ _ c.in_ok-push.ensures.items c.loop.invariant.none;
}

use Rattle.cps_p_circuit.proofs.rule.Circuit.gather.Goals as goal

pub loop-k-preserved : goal.loop-k-preserved
loop-k-preserved c = record {
  given = λ all. c.in_ok-accept.ensures.given (c.loop-k.invariant.given all);
  before = λ t. c.loop-k.invariant.before (c.in_ok-accept.ensures.before t);
}

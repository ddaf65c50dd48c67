use Rattle.std.proofs.Common.{arith, ◌<◌, length}
use Rattle.cps_p_circuit.proofs.TakenArcs.{subject_holds}
use Rattle.cps_p_circuit.proofs.reach.shut_arcs.Goals as goal

pub truth-requires : goal.truth-requires
truth-requires c =
    subject_holds (λ i. i < length c.args.past.now.first) c.args.literals.now c.loop-k.k _ (omega arith) c.requires

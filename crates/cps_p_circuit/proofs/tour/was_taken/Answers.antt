use Rattle.std.proofs.Common.{arith, ◌<◌, length}
use Rattle.cps_p_circuit.proofs.TakenArcs.{subject_holds}
use Rattle.cps_p_circuit.proofs.tour.was_taken.Goals as goal

pub was_true-requires : goal.was_true-requires
was_true-requires c = subject_holds (λ i. i < length c.args.past.now.first) c.args.literals.now c.args.arc _ (omega arith) c.requires

-- The subject of a literal that is open is not fixed.
use Rattle.std.proofs.Common.{arith, ◌<◌, length}
use Rattle.cps_propagate.specs.Now.{IsFixedNow}
use Rattle.cps_p_circuit.proofs.TakenArcs.{subject_holds}
use Rattle.cps_p_circuit.proofs.decided.is_open.Goals as goal

pub known-requires : goal.known-requires
known-requires c = subject_holds (λ i. i < length c.args.store.now.first) c.args.literals.now c.args.place _ (omega arith) c.requires

pub returns-in-None : goal.returns-in-None
returns-in-None c = λ _ fixed. c.in-None.ensures (subject_holds (IsFixedNow c.args.store.now) c.args.literals.now c.args.place _ (omega arith) fixed)

use Rattle.std.proofs.Common.{◌≡◌, take, List, ℤ}
use Rattle.cps_instance.specs.Tasks.{atom_subjects}
use Rattle.cps_propagate.specs.Now.{AreOpen}
use Rattle.cps_p_circuit.specs.Showing.{taken_at}
use Rattle.cps_p_circuit.proofs.decided.read_taken.Given as goal

abbrev pub invariant-loop-literal : goal.invariant-loop-literal
invariant-loop-literal l = (xs : List ℤ) → AreOpen l.store xs (atom_subjects l.literals) → taken_at xs (take l.literal-index l.literals) ≡ l.taken.items

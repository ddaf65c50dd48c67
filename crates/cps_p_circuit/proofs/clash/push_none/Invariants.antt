use Rattle.std.proofs.Common.{◌≡◌, ℕ, ◌<◌, slice_index}
use Rattle.std.specs.Prelude.{Contains}
use Rattle.cps_p_circuit.specs.Clashes.{leaving}
use Rattle.cps_p_circuit.proofs.clash.push_none.Given as goal

abbrev pub invariant-loop-j : goal.invariant-loop-j
invariant-loop-j l = (m : ℕ) → m < l.j → slice_index l.ends m ≡ l.node → Contains l.used.items (leaving m)

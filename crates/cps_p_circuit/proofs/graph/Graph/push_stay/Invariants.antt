use Rattle.std.proofs.Common.{◌≡◌, ℕ, ◌<◌, slice_index}
use Rattle.std.specs.Prelude.{Contains}
use Rattle.cps_p_circuit.specs.Clashes.{leaving, GrowsSigns}
use Rattle.cps_p_circuit.proofs.graph.Graph.push_stay.Given as goal

abbrev pub invariant-loop-j : goal.invariant-loop-j
invariant-loop-j l = record {
  grows : GrowsSigns l.initial.used.items l.used.items;
  each : (m : ℕ) → m < l.j → slice_index l.self.from.items m ≡ l.node → slice_index l.self.to.items m ≡ l.node → Contains l.used.items (leaving m);
}

-- The sink took the bytes up to here, and its count has stayed.
use Rattle.std.proofs.Common.{◌≡◌, ◌≤◌, ◌-◌, length, take}
use Rattle.std.specs.Io.KnownBytes.{Appends}
use Rattle.cps_outer.proofs.transfer.write_all.Given as goal

abbrev pub invariant-loop-at : goal.invariant-loop-at
invariant-loop-at g l = record {
  taken : Appends (g.K.Sink.held l.fn.sink) (g.K.Sink.held l.sink) (take l.at l.bytes);
  few : l.at ≤ length l.bytes;
  kept : g.K.Sink.faults l.sink ≡ g.K.Sink.faults l.fn.sink;
}

abbrev pub decreases-loop-at : goal.decreases-loop-at
decreases-loop-at g l = length l.bytes - l.at

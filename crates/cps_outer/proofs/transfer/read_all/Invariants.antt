-- The bytes so far are those that the source lost, and its count has stayed.
use Rattle.std.proofs.Common.{◌≡◌, ◌≤◌, ◌-◌, ◌+◌, vec_len}
use Rattle.std.specs.Io.KnownBytes.{Consumes}
use Rattle.cps_outer.proofs.transfer.read_all.Given as goal

abbrev pub invariant-loop-buf : goal.invariant-loop-buf
invariant-loop-buf g l = record {
  read : Consumes (g.S.Source.left l.fn.source) (g.S.Source.left l.source) l.bytes.items;
  few : vec_len l.bytes ≤ l.limit + 1;
  kept : g.S.Source.faults l.source ≡ g.S.Source.faults l.fn.source;
}

abbrev pub decreases-loop-buf : goal.decreases-loop-buf
decreases-loop-buf g l = l.limit + 1 - vec_len l.bytes

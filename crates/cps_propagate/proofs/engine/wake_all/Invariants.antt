use Rattle.std.proofs.Common.{◌≡◌, ◌<◌, length, true, ℕ}
use Rattle.cps_propagate.specs.Waiting.{is_waiting}
use Rattle.cps_propagate.proofs.engine.wake_all.Given as goal

abbrev pub invariant-loop-place : goal.invariant-loop-place
invariant-loop-place l = record {
  count : length l.queue.waits ≡ length l.fn.queue.waits;
  wait : (k : ℕ) → k < l.place → is_waiting l.queue.waits k ≡ true;
}

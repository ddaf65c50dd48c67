use Rattle.std.proofs.Common.{◌≡◌, length}
use Rattle.cps_p_sequence.proofs.cuts.guide_back.Given as goal

abbrev pub invariant-loop-step : goal.invariant-loop-step
invariant-loop-step l = length l.tails.items ≡ length l.heads

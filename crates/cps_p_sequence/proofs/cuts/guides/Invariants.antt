use Rattle.std.proofs.Common.{◌≡◌, length}
use Rattle.cps_p_sequence.proofs.cuts.guides.Given as goal

abbrev pub invariant-loop-after : goal.invariant-loop-after
invariant-loop-after l = length l.heads.items ≡ length l.net.last.now

use Rattle.std.proofs.Common.{◌≡◌, vec_len}
use Rattle.cps_shared_tests.proofs.models.variables.Given as goal

abbrev pub invariant-loop-high : goal.invariant-loop-high
invariant-loop-high l = vec_len l.variables ≡ l.high-index

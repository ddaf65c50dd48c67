-- Each two are apart exactly where each two of those that are left are.
use Rattle.std.proofs.Common.{◌≡◌, length}
use Rattle.cps_model.specs.Scheduling.{are_apart}
use Rattle.cps_model.specs.Pairs.{each_two}
use Rattle.cps_eval.proofs.intervals.are_apart_in_pairs.Given as goal

abbrev pub invariant-loop-rest : goal.invariant-loop-rest
invariant-loop-rest l = each_two are_apart l.rest ≡ each_two are_apart l.runs

abbrev pub decreases-loop-rest : goal.decreases-loop-rest
decreases-loop-rest l = length l.rest

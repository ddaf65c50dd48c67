-- None so far ends before it starts.
use Rattle.std.specs.List.{list_all}
use Rattle.std.proofs.Common.{◌≡◌, take, true}
use Rattle.cps_eval.specs.Turns.{is_forward}
use Rattle.cps_eval.proofs.intervals.are_forward.Given as goal

abbrev pub invariant-loop-run : goal.invariant-loop-run
invariant-loop-run l = list_all is_forward (take l.run-index l.runs) ≡ true

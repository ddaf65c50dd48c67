-- Where the intervals that are left have no such number, none has.
use Rattle.std.proofs.Common.{length}
use Rattle.cps_model.specs.Within.{is_within}
use Rattle.cps_log.specs.Boxes.{NoneBetween}
use Rattle.cps_cert.proofs.intervals.none_between.Given as goal

abbrev pub invariant-loop-rest : goal.invariant-loop-rest
invariant-loop-rest l = record {
  all : NoneBetween l.low l.high (is_within l.rest) → NoneBetween l.low l.high (is_within l.bounds);
  rest : NoneBetween l.low l.high (is_within l.bounds) → NoneBetween l.low l.high (is_within l.rest);
}

abbrev pub decreases-loop-rest : goal.decreases-loop-rest
decreases-loop-rest l = length l.rest

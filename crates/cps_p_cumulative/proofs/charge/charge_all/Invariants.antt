use Rattle.std.proofs.Common.{pos}
use Rattle.std.specs.Prelude.{◌≤ℤ◌}
use Rattle.std.proofs.Common.{◌++◌}
use Rattle.cps_instance.specs.Tasks.{span_subjects}
use Rattle.cps_p_cumulative.specs.Relying.{Relies, IsCharged}
use Rattle.cps_p_cumulative.proofs.charge.charge_all.Given as goal

abbrev pub invariant-loop-k : goal.invariant-loop-k
invariant-loop-k l = record {
  low : pos 0 ≤ℤ l.left;
  high : l.left ≤ℤ l.need;
  charged : Relies l.past l.case.assumed (span_subjects l.resource.spans ++ l.resource.demands) (IsCharged l.case.time l.case.width l.resource.spans l.resource.demands l.need l.k l.left) l.fn.facts.items l.facts.items;
}

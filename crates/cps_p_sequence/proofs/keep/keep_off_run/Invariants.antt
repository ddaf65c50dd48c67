use Rattle.std.proofs.Common.{ℤ, ◌≤ℤ◌, ◌<ℤ◌}
use Rattle.std.specs.Prelude.{Contains}
use Rattle.cps_instance.specs.declared.task.Body.{Body}
use Rattle.cps_propagate.specs.Now.{IsOpenTo}
use Rattle.cps_p_sequence.specs.Runs.{HasLabels, AllGiven, AllTargetsTrue}
use Rattle.cps_p_sequence.proofs.keep.keep_off_run.Given as goal

abbrev pub invariant-loop-value : goal.invariant-loop-value
invariant-loop-value l = record {
  given : (b : Body) → HasLabels b l.store l.subject l.labels → AllGiven b l.store l.fn.found.items → AllGiven b l.store l.found.items;
  kept : AllTargetsTrue l.store l.found.items → AllTargetsTrue l.store l.fn.found.items;
  whole : AllTargetsTrue l.store l.found.items → (x : ℤ) → l.fn.run.0 ≤ℤ x → x <ℤ l.value → IsOpenTo l.store l.subject x → Contains l.labels x;
}

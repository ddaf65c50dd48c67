use Rattle.std.proofs.Common.{ℕ, ◌<◌, pos, get_or}
use Rattle.std.specs.Prelude.{Contains}
use Rattle.cps_instance.specs.declared.task.Body.{Body}
use Rattle.cps_propagate.specs.Now.{IsOpenTo}
use Rattle.cps_p_sequence.specs.Runs.{HasLabels, AllGiven, AllTargetsTrue}
use Rattle.cps_p_sequence.proofs.keep.keep_off_others.Given as goal

abbrev pub invariant-loop-label : goal.invariant-loop-label
invariant-loop-label l = record {
  given : (b : Body) → HasLabels b l.store l.subject l.labels → AllGiven b l.store l.fn.found.items → AllGiven b l.store l.found.items;
  kept : AllTargetsTrue l.store l.found.items → AllTargetsTrue l.store l.fn.found.items;
  closed : AllTargetsTrue l.store l.found.items → (k : ℕ) → k < l.label-index → IsOpenTo l.store l.subject (get_or l.alphabet k (pos 0)) → Contains l.labels (get_or l.alphabet k (pos 0));
}

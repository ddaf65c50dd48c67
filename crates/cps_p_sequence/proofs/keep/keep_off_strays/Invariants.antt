use Rattle.cps_instance.specs.declared.task.Body.{Body}
use Rattle.cps_p_sequence.specs.Runs.{HasLabels, AllGiven, AllTargetsTrue}
use Rattle.cps_p_sequence.proofs.Keeping.{AreWhole}
use Rattle.cps_p_sequence.proofs.keep.keep_off_strays.Given as goal

abbrev pub invariant-loop-part : goal.invariant-loop-part
invariant-loop-part l = record {
  given : (b : Body) → HasLabels b l.store l.subject l.labels → AllGiven b l.store l.fn.found.items → AllGiven b l.store l.found.items;
  kept : AllTargetsTrue l.store l.found.items → AllTargetsTrue l.store l.fn.found.items;
  whole : AllTargetsTrue l.store l.found.items → AreWhole l.store l.subject l.labels l.first l.last l.parts l.part-index;
}

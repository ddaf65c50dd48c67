use Rattle.std.proofs.Common.{◌≡◌, take, ◌++◌}
use Rattle.cps_instance.specs.Tasks.{span_subjects}
use Rattle.cps_p_span.proofs.spans.push_spans.Given as goal

abbrev pub invariant-loop-span : goal.invariant-loop-span
invariant-loop-span l = l.subjects.items ≡ l.fn.subjects.items ++ span_subjects (take l.span-index l.spans)

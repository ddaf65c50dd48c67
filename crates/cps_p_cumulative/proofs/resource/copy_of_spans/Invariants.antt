use Rattle.std.proofs.Common.{◌≡◌, take}
use Rattle.cps_p_cumulative.proofs.resource.copy_of_spans.Given as goal

abbrev pub invariant-loop-span : goal.invariant-loop-span
invariant-loop-span l = l.list.items ≡ take l.span-index l.spans

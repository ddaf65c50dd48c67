use Rattle.std.proofs.Common.{◌≡◌, take}
use Rattle.cps_p_span.proofs.spans.copy_spans.Given as goal

abbrev pub invariant-loop-span : goal.invariant-loop-span
invariant-loop-span l = l.copies.items ≡ take l.span-index l.spans

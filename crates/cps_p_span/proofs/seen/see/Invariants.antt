use Rattle.std.proofs.Common.{take}
use Rattle.std.specs.List.{AllZip}
use Rattle.cps_p_span.specs.Spans.{IsSpanSeen}
use Rattle.cps_p_span.proofs.seen.see.Given as goal

abbrev pub invariant-loop-span : goal.invariant-loop-span
invariant-loop-span l = AllZip (IsSpanSeen l.store) (take l.span-index l.spans) l.seen.items

-- The spans so far.
use Rattle.std.proofs.Common.{◌≡◌, map, take}
use Rattle.cps_instance.specs.Posting.{span_at}
use Rattle.cps_instance.proofs.spans.spans_at.Given as goal

abbrev pub invariant-loop-index : goal.invariant-loop-index
invariant-loop-index l = l.spans.items ≡ map (span_at l.constraints l.lists) (take l.index-index l.indices)

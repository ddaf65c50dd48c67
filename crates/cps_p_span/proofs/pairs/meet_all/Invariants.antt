use Rattle.cps_p_span.specs.Spans.{AddsApart, AreAllowed, SettlesPairs}
use Rattle.cps_p_span.proofs.pairs.meet_all.Given as goal

abbrev pub invariant-loop-place : goal.invariant-loop-place
invariant-loop-place l = record {
  given : AddsApart l.spans l.seen l.fn.found.items l.found.items;
  allowed : AreAllowed l.seen l.place;
  rest : SettlesPairs l.spans l.seen l.place l.fn.found.items l.found.items;
}

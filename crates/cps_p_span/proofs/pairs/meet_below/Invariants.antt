use Rattle.cps_p_span.specs.Spans.{AddsApart, AllowsFirst, SettlesFirst}
use Rattle.cps_p_span.proofs.pairs.meet_below.Given as goal

abbrev pub invariant-loop-other : goal.invariant-loop-other
invariant-loop-other l = record {
  given : AddsApart l.spans l.seen l.fn.found.items l.found.items;
  allowed : AllowsFirst l.seen l.place l.other;
  rest : SettlesFirst l.spans l.seen l.place l.other l.fn.found.items l.found.items;
}

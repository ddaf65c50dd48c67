use Rattle.cps_p_boxes.specs.Boxes.{AddsGiven, AllowsBoxes, Settles, AreFirstSettled}
use Rattle.cps_p_boxes.proofs.pairs.meet_below.Given as goal

abbrev pub invariant-loop-other : goal.invariant-loop-other
invariant-loop-other l = record {
  given : AddsGiven l.x l.y l.fn.found.items l.found.items;
  allowed : AllowsBoxes l.x.seen.items l.y.seen.items l.place l.other;
  rest : Settles l.x l.y (AreFirstSettled l.x l.y l.place l.other) l.fn.found.items l.found.items;
}

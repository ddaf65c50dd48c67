use Rattle.cps_p_boxes.specs.Boxes.{AddsGiven, AreAllAllowed, Settles, AreAllSettled}
use Rattle.cps_p_boxes.proofs.pairs.meet_all.Given as goal

abbrev pub invariant-loop-place : goal.invariant-loop-place
invariant-loop-place l = record {
  given : AddsGiven l.x l.y l.fn.found.items l.found.items;
  allowed : AreAllAllowed l.x.seen.items l.y.seen.items l.place;
  rest : Settles l.x l.y (AreAllSettled l.x l.y l.place) l.fn.found.items l.found.items;
}

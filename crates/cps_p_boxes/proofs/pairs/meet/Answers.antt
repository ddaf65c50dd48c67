use Rattle.std.proofs.Common.{inl, inr, false, rules}
use Rattle.cps_p_boxes.specs.Boxes.{MayBeApart}
use Rattle.cps_p_boxes.proofs.Boxing.{adds_swapped, turned_sure}
use Rattle.cps_p_boxes.proofs.Settled_boxes.{not_both}
use Rattle.cps_p_span.proofs.Refusing.{on_ok_of}
use Rattle.cps_p_boxes.proofs.pairs.meet.Goals as goal
use Rattle.cps_p_boxes.proofs.pairs.meet.Goals.{else-in_x-via-then-in_x+else-in_y, else-in_x-via-else-in_x}

pub clash-requires-clause-in_x : goal.clash-requires-clause-in_x
clash-requires-clause-in_x c = c.overlap-in_x.ensures.yes c.if-in_x.true

pub clash-requires-clause-in_y : goal.clash-requires-clause-in_y
clash-requires-clause-in_y c = c.overlap-in_y.ensures.yes c.if-in_y.true

pub returns-then-in_y-clause-impossible : goal.returns-then-in_y-clause-impossible
returns-then-in_y-clause-impossible c = c.clash.ensures.impossible

pub returns-then-in_y-clause-allowed : goal.returns-then-in_y-clause-allowed
returns-then-in_y-clause-allowed c = c.clash.ensures.allowed

pub order-requires-clause-overlap : goal.order-requires-clause-overlap
order-requires-clause-overlap c = c.overlap-in_y.ensures.yes c.if-in_y-2.true

pub order-requires-then-in_x-2-clause-pair : goal.order-requires-then-in_x-2-clause-pair
order-requires-then-in_x-2-clause-pair c = record { along = c.requires.pair.across; across = c.requires.pair.along }

pub order-requires-then-in_x-2-clause-overlap : goal.order-requires-then-in_x-2-clause-overlap
order-requires-then-in_x-2-clause-overlap c = c.overlap-in_x.ensures.yes c.if-in_x-2.true

pub returns-in_ok-order-clause-given : goal.returns-in_ok-order-clause-given
returns-in_ok-order-clause-given c = c.in_ok-order.ensures.given

pub returns-in_ok-order-clause-allowed : goal.returns-in_ok-order-clause-allowed
returns-in_ok-order-clause-allowed c = λ e a b. elim c.else-in_x.branch [
  | else-in_x-via-then-in_x+else-in_y w ↦ inr (c.overlap-in_y.ensures.no w.if-in_y.false)
  | else-in_x-via-else-in_x w ↦ inl (c.overlap-in_x.ensures.no w.if-in_x.false)
]

pub returns-in_ok-order-2-clause-given : goal.returns-in_ok-order-2-clause-given
returns-in_ok-order-2-clause-given c = adds_swapped c.args.x.now c.args.y.now c.args.found.now.items _ c.in_ok-order-2.ensures.given

pub returns-in_ok-order-2-clause-allowed : goal.returns-in_ok-order-2-clause-allowed
returns-in_ok-order-2-clause-allowed c = λ e a b. elim c.else-in_x.branch [
  | else-in_x-via-then-in_x+else-in_y w ↦ inr (c.overlap-in_y.ensures.no w.if-in_y.false)
  | else-in_x-via-else-in_x w ↦ inl (c.overlap-in_x.ensures.no w.if-in_x.false)
]

pub returns-else-in_x-2-clause-allowed : goal.returns-else-in_x-2-clause-allowed
returns-else-in_x-2-clause-allowed c = λ e a b. elim c.else-in_x.branch [
  | else-in_x-via-then-in_x+else-in_y w ↦ inr (c.overlap-in_y.ensures.no w.if-in_y.false)
  | else-in_x-via-else-in_x w ↦ inl (c.overlap-in_x.ensures.no w.if-in_x.false)
]

pub order-requires-clause-apart : goal.order-requires-clause-apart
order-requires-clause-apart c = elim c.else-in_x.branch [
  | else-in_x-via-then-in_x+else-in_y w ↦ absurd (search rules)
  | else-in_x-via-else-in_x w ↦ c.overlap-in_x.ensures.no w.if-in_x.false
]

pub order-requires-then-in_x-2-clause-apart : goal.order-requires-then-in_x-2-clause-apart
order-requires-then-in_x-2-clause-apart c = c.overlap-in_y.ensures.no c.if-in_y-2.false

pub returns-then-in_y-clause-rest : goal.returns-then-in_y-clause-rest
returns-then-in_y-clause-rest c e = λ s is has h. (
  on_ok_of c.clash.result false e c.clash.ensures.kept s h,
  record {
    along = λ o a b. elim (c.clash.ensures.allowed e a b) [
      | inl q ↦ not_both c.args.x.now.seen.items c.args.pair (c.overlap-in_x.ensures.yes c.if-in_x.true) q
      | inr q ↦ not_both c.args.y.now.seen.items c.args.pair o q
    ];
    across = λ o a b. elim (c.clash.ensures.allowed e (turned_sure a) (turned_sure b)) [
      | inl q ↦ not_both c.args.x.now.seen.items c.args.pair o q
      | inr q ↦ not_both c.args.y.now.seen.items c.args.pair (c.overlap-in_y.ensures.yes c.if-in_y.true) q
    ];
  },
)

pub returns-in_ok-order-clause-rest : goal.returns-in_ok-order-clause-rest
returns-in_ok-order-clause-rest c e = λ s is has h.
    let r = c.in_ok-order.ensures.rest s is has h in
    let apart : MayBeApart c.args.x.now.seen.items c.args.pair = elim c.else-in_x.branch [
      | else-in_x-via-then-in_x+else-in_y w ↦ absurd (search rules)
      | else-in_x-via-else-in_x w ↦ c.overlap-in_x.ensures.no w.if-in_x.false
    ] in
    (r.0, record { along = λ o. r.1; across = λ o. not_both c.args.x.now.seen.items c.args.pair o apart })

pub returns-in_ok-order-2-clause-rest : goal.returns-in_ok-order-2-clause-rest
returns-in_ok-order-2-clause-rest c e = λ s is has h.
    let r = c.in_ok-order-2.ensures.rest s has is h in
    (r.0, record { along = λ o. not_both c.args.y.now.seen.items c.args.pair o (c.overlap-in_y.ensures.no c.if-in_y-2.false); across = λ o. r.1 })

pub returns-else-in_x-2-clause-rest : goal.returns-else-in_x-2-clause-rest
returns-else-in_x-2-clause-rest c e = λ s is has h. (
  h,
  record {
    along = λ o. not_both c.args.y.now.seen.items c.args.pair o (c.overlap-in_y.ensures.no c.if-in_y-2.false);
    across = λ o. not_both c.args.x.now.seen.items c.args.pair o (c.overlap-in_x.ensures.no c.if-in_x-2.false);
  },
)

-- What the spans before a place allow, all allow at the end.
use Rattle.std.proofs.Common.{Ok, None, ◌≡◌, rules, arith}
use Rattle.cps_p_boxes.proofs.Boxing.{adds_then, all_more}
use Rattle.cps_p_boxes.proofs.Settled_boxes.{all_settle}
use Rattle.cps_p_boxes.proofs.pairs.meet_all.Goals as goal

pub returns-in-Some-clause-given : goal.returns-in-Some-clause-given
returns-in-Some-clause-given c = adds_then c.args.x.now c.args.y.now c.args.found.now.items c.loop-place.found.items c.meet_below.new.found.items c.loop-place.invariant.given c.in_ok-pair.ensures.given

pub loop-place-preserved : goal.loop-place-preserved
loop-place-preserved c =
    let none : c.meet_below.result ≡ Ok None = search rules in
    record {
      given = adds_then c.args.x.now c.args.y.now c.args.found.now.items c.loop-place.found.items c.meet_below.new.found.items c.loop-place.invariant.given c.in_ok-pair.ensures.given;
      allowed = all_more c.args.x.now.seen.items c.args.y.now.seen.items c.loop-place.place c.loop-place.invariant.allowed (c.meet_below.ensures.allowed none);
      rest = all_settle c.args.x.now c.args.y.now c.loop-place.place c.args.found.now.items c.loop-place.found.items c.meet_below.new.found.items c.loop-place.invariant.rest (c.meet_below.ensures.rest none);
    }

pub returns-clause-allowed : goal.returns-clause-allowed
returns-clause-allowed c = λ e j l. c.loop-place.invariant.allowed j (omega (arith, l, c.loop-place-test.false))

pub meet_below-requires-clause-place_x : goal.meet_below-requires-clause-place_x
meet_below-requires-clause-place_x c = c.requires.count.along c.loop-place.place c.loop-place-test.true

pub meet_below-requires-clause-place_y : goal.meet_below-requires-clause-place_y
meet_below-requires-clause-place_y c = c.requires.count.across c.loop-place.place c.loop-place-test.true

pub returns-clause-rest : goal.returns-clause-rest
returns-clause-rest c = λ e s is has h. let r = c.loop-place.invariant.rest s is has h in (r.0, λ j l. r.1 j (omega (arith, l, c.loop-place-test.false)))

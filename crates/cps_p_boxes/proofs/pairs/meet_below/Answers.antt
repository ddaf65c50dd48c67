-- What those before a place allow, all allow at the end.
use Rattle.std.proofs.Common.{Ok, ◌≡◌, false, rules, arith}
use Rattle.cps_p_boxes.proofs.Boxing.{adds_then, allows_more}
use Rattle.cps_p_boxes.proofs.Settled_boxes.{first_settles}
use Rattle.cps_p_boxes.proofs.pairs.meet_below.Goals as goal

pub returns-then-branch-clause-given : goal.returns-then-branch-clause-given
returns-then-branch-clause-given c = adds_then c.args.x.now c.args.y.now c.args.found.now.items c.loop-other.found.items c.meet.new.found.items c.loop-other.invariant.given c.in_ok-meet.ensures.given

pub loop-other-preserved : goal.loop-other-preserved
loop-other-preserved c =
    let none : c.meet.result ≡ Ok false = search rules in
    record {
      given = adds_then c.args.x.now c.args.y.now c.args.found.now.items c.loop-other.found.items c.meet.new.found.items c.loop-other.invariant.given c.in_ok-meet.ensures.given;
      allowed = allows_more c.args.x.now.seen.items c.args.y.now.seen.items c.args.place c.loop-other.other c.loop-other.invariant.allowed (c.meet.ensures.allowed none);
      rest = first_settles c.args.x.now c.args.y.now c.args.place c.loop-other.other c.args.found.now.items c.loop-other.found.items c.meet.new.found.items c.loop-other.invariant.rest (c.meet.ensures.rest none);
    }

pub returns-clause-allowed : goal.returns-clause-allowed
returns-clause-allowed c = λ e i l. c.loop-other.invariant.allowed i (omega (arith, l, c.loop-other-test.false))

pub returns-clause-rest : goal.returns-clause-rest
returns-clause-rest c = λ e s is has h. let r = c.loop-other.invariant.rest s is has h in (r.0, λ i l. r.1 i (omega (arith, l, c.loop-other-test.false)))

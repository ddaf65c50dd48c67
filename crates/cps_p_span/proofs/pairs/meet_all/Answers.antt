-- What the spans before a place allow, all allow at the end.
use Rattle.std.proofs.Common.{Ok, ◌≡◌, None, rules, arith}
use Rattle.cps_p_span.proofs.Pairing.{adds_then, allowed_more}
use Rattle.cps_p_span.proofs.Settling.{all_settle}
use Rattle.cps_p_span.proofs.pairs.meet_all.Goals as goal

pub returns-in-Some-clause-given : goal.returns-in-Some-clause-given
returns-in-Some-clause-given c = adds_then c.args.spans.now c.args.seen.now c.args.found.now.items c.loop-place.found.items c.meet_below.new.found.items c.loop-place.invariant.given c.in_ok-pair.ensures.given

pub loop-place-preserved : goal.loop-place-preserved
loop-place-preserved c =
    let none : c.meet_below.result ≡ Ok None = search rules in
    record {
      given = adds_then c.args.spans.now c.args.seen.now c.args.found.now.items c.loop-place.found.items c.meet_below.new.found.items c.loop-place.invariant.given c.in_ok-pair.ensures.given;
      allowed = allowed_more c.args.seen.now c.loop-place.place c.loop-place.invariant.allowed (c.meet_below.ensures.allowed none);
      rest = all_settle c.args.spans.now c.args.seen.now c.loop-place.place c.args.found.now.items c.loop-place.found.items c.meet_below.new.found.items c.loop-place.invariant.rest (c.meet_below.ensures.rest none);
    }

pub returns-clause-allowed : goal.returns-clause-allowed
returns-clause-allowed c = λ e i j b l. c.loop-place.invariant.allowed i j b (omega (arith, l, c.loop-place-test.false))

pub returns-clause-rest : goal.returns-clause-rest
returns-clause-rest c = λ e s are h. let r = c.loop-place.invariant.rest s are h in (r.0, λ j l. r.1 j (omega (arith, l, c.loop-place-test.false)))

-- Each place of the window so far is closed.
use Rattle.std.proofs.Common.{◌∷◌, [], Ok, ap, get_or, arith}
use Rattle.cps_p_lookup.proofs.Answering.{no_not_yes}
use Rattle.cps_p_lookup.proofs.Growing.{grows_trans, grows_among}
use Rattle.cps_p_lookup.proofs.Placing.{closed_more, gives_all, named}
use Rattle.cps_p_lookup.proofs.justify.justify.Goals as goal

pub loop-place-preserved : goal.loop-place-preserved
loop-place-preserved c =
    let s = c.args.past.now in
    let i = c.args.lookup.now.index in
    let t = c.args.lookup.now.target in
    let es = c.args.lookup.now.exprs.now in
    let w = c.in_ok-window.ensures c.in-Some.window (ap Ok c.in-Some.is) in
    let v = c.in_ok-close.ensures (ap Ok c.if-not-branch.false) in
    record {
      grows = grows_trans s (i ∷ t ∷ es) c.places_left.new.facts.items c.loop-place.facts.items c.close.new.facts.items c.loop-place.invariant.grows
          (grows_among s (i ∷ t ∷ get_or es c.loop-place.place 0 ∷ []) (i ∷ t ∷ es) c.loop-place.facts.items c.close.new.facts.items (named i t es c.loop-place.place (omega (arith, w.inside, c.loop-place-test.true))) v.grows);
      closed = closed_more s i t es c.in-Some.window.0 c.loop-place.place c.args.goal c.loop-place.facts.items c.close.new.facts.items c.loop-place.invariant.closed v;
    }

pub returns : goal.returns
returns c = λ e.
    let s = c.args.past.now in
    gives_all s c.args.lookup.now.index c.args.lookup.now.target c.args.lookup.now.exprs.now c.args.goal c.clear.new.self.items c.places_left.new.facts.items c.loop-place.facts.items c.in-Some.window c.loop-place.place
    c.clear.ensures.items (c.in_ok-window.ensures c.in-Some.window (ap Ok c.in-Some.is)) c.loop-place.invariant.grows c.loop-place-test.false c.loop-place.invariant.closed

pub returns-then-not-branch : goal.returns-then-not-branch
returns-then-not-branch c = λ e. no_not_yes _ e

pub returns-in_default : goal.returns-in_default
returns-in_default c = λ e. no_not_yes _ e

-- Each column so far has the row's value, or the atom that is to be given says that it has not.
use Rattle.std.specs.List.{Contains}
use Rattle.std.proofs.lemmas.List.Elements.{All-nil, All-cons, Contains-get_or}
use Rattle.std.proofs.Common.{◌∷◌, [], Ok, ap, pos, get_or, rules, FitsSigned, w64}
use Rattle.std.proofs.lemmas.Int.{to_z-of_z}
use Rattle.cps_p_lookup.proofs.Growing.{grows_trans, grows_among}
use Rattle.cps_p_lookup.proofs.Excluding.{sure_more, sure_all}
use Rattle.cps_p_lookup.proofs.denials.fix_row.Goals as goal

pub loop-k-preserved : goal.loop-k-preserved
loop-k-preserved c =
    let s = c.args.past.now in
    let es = c.args.exprs.now in
    let row = c.args.row.now in
    let k = c.loop-k.k in
    let z = get_or row k (pos 0) in
    let f : FitsSigned w64 z = search rules in
    let h = rw (to_z-of_z w64 z f) at (c.in_ok-hold.ensures (ap Ok c.if-not-branch.false)) in
    record {
      grows = grows_trans s es c.args.facts.now.items c.loop-k.facts.items c.hold.new.facts.items c.loop-k.invariant.grows
          (grows_among s (get_or es k 0 ∷ []) es c.loop-k.facts.items c.hold.new.facts.items (All-cons (Contains es) (get_or es k 0) [] (Contains-get_or es k 0 c.loop-k-test.true) (All-nil (Contains es))) h.grows);
      sure = sure_more s c.args.exprs.now row k c.args.goal c.loop-k.facts.items c.hold.new.facts.items c.loop-k.invariant.sure h;
    }

pub returns : goal.returns
returns c = λ _. sure_all c.args.past.now c.args.exprs.now c.args.row.now c.loop-k.k c.args.goal c.args.facts.now.items c.loop-k.facts.items c.loop-k-test.false c.loop-k.invariant.grows c.loop-k.invariant.sure

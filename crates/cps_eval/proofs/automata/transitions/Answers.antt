-- One transition more.
use Rattle.std.proofs.Common.{get_or, pos, arith, rules, refl, FitsSigned, w64}
use Rattle.std.proofs.lemmas.Int.{to_z-of_z}
use Rattle.cps_eval.proofs.Stepping.{transitions-more}
use Rattle.cps_eval.proofs.automata.transitions.Goals as goal

pub loop-k-preserved : goal.loop-k-preserved
loop-k-preserved c =
    let ts = c.args.tails.now in
    let hs = c.args.heads.now in
    let ls = c.args.labels.now in
    let k = c.loop-k.k in
    let ft : FitsSigned w64 (get_or ts k (pos 0)) = search rules in
    let fh : FitsSigned w64 (get_or hs k (pos 0)) = search rules in
    let fl : FitsSigned w64 (get_or ls k (pos 0)) = search rules in
    let items = simp to_z-of_z at c.in_ok-push.ensures.items in
    rw items (transitions-more ts hs ls k _ c.loop-k.steps.items _ (omega arith) (omega arith) (omega arith) refl c.loop-k.invariant)

-- One transition more, and all of them.
use Rattle.std.proofs.Common.{◌++◌, ◌∙◌, List, get_or, pos, arith, rules, refl, sym, ap, FitsSigned, w64}
use Rattle.std.proofs.lemmas.Int.{to_z-of_z}
use Rattle.std.proofs.lemmas.List.{append-nil}
use Rattle.cps_model.specs.declared.parts.Transition.{Transition}
use Rattle.cps_p_sequence.proofs.Numbering.{transitions-more, transitions-none}
use Rattle.cps_p_sequence.proofs.states.transitions.Goals as goal

pub loop-k-preserved : goal.loop-k-preserved
loop-k-preserved c =
    let ts = c.args.tails.now in
    let hs = c.args.heads.now in
    let ls = c.args.labels.now in
    let k = c.loop-k.k in
    let ft : FitsSigned w64 (get_or ts k (pos 0)) = search rules in
    let fh : FitsSigned w64 (get_or hs k (pos 0)) = search rules in
    let fl : FitsSigned w64 (get_or ls k (pos 0)) = search rules in
    let items = simp to_z-of_z at c.in_ok-push.ensures.items in
    rw items (transitions-more ts hs ls k _ c.loop-k.raw.items _ (omega arith) (omega arith) (omega arith) refl c.loop-k.invariant)

pub returns : goal.returns
returns c =
    let none = transitions-none c.args.tails.now c.args.heads.now c.args.labels.now c.loop-k.k (λ a b d. omega arith) in
    sym (append-nil c.loop-k.raw.items) ∙ ap (λ (rs : List Transition). c.loop-k.raw.items ++ rs) (sym none) ∙ c.loop-k.invariant

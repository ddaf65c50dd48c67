use Rattle.std.proofs.Common.{◌∷◌, [], refl, rules, w64, FitsSigned}
use Rattle.std.proofs.lemmas.Int.{to_z-of_z}
use Rattle.cps_p_sequence.proofs.Growing.{grows_same}
use Rattle.cps_p_sequence.proofs.cuts.is_no_way.Goals as goal

pub returns-then-is_denied : goal.returns-then-is_denied
returns-then-is_denied c =
    let us = c.args.facts.now.items in
    let f : FitsSigned w64 c.args.step.now.label = search rules in
    let off = simp (to_z-of_z, f) at c.is_denied.ensures in
    record { grows = grows_same c.args.past.now (c.args.layer.now.subject ∷ []) us us refl; out = λ e limited. record { at = λ xs all deny same. off c.if-is_denied.true xs deny same } }

pub returns : goal.returns
returns c =
    let f : FitsSigned w64 c.args.step.now.label = search rules in
    let out = simp (to_z-of_z, f) at c.in_ok-is_out.ensures.out in
    record { grows = c.in_ok-is_out.ensures.grows; out = λ e limited. out e limited c.args.layer.now.goal }

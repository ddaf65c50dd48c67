use Rattle.std.proofs.Common.{sym, ◌∙◌, w64, FitsSigned, rules}
use Rattle.std.proofs.lemmas.Int.{to_z-of_z}
use Rattle.cps_p_sequence.proofs.keep.is_open.Goals as goal

pub returns : goal.returns
returns c =
    let f : FitsSigned w64 c.args.value = search rules in
    let shown = rw (to_z-of_z w64 c.args.value f) at c.contains.ensures in
    (λ t. sym (c.domain.ensures c.args.value) ∙ sym shown ∙ t, λ o. shown ∙ c.domain.ensures c.args.value ∙ o)

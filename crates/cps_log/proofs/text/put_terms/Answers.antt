-- One term more, and none left.
use Rattle.std.proofs.Common.{◌<◌, ℕ, pos, List, ◌++◌, length, get_or, ◌∙◌, ap, refl, arith, rules, FitsSigned, w32, w64}
use Rattle.std.proofs.lemmas.Int.{to_z-of_z}
use Rattle.cps_log.proofs.Terms.{terms_first, text_with_term}
use Rattle.cps_log.proofs.text.put_terms.Goals as goal

pub loop-place-preserved : goal.loop-place-preserved
loop-place-preserved c =
    let vars = c.args.vars.now in
    let coeffs = c.args.coeffs.now in
    let place = c.loop-place.place in
    let h : place < length vars = omega arith in
    let k : place < length coeffs = omega arith in
    let fits_variable : FitsSigned w32 (get_or vars place (pos 0)) = search rules in
    let fits_coefficient : FitsSigned w64 (get_or coeffs place (pos 0)) = search rules in
    let wrote = simp to_z-of_z at c.in_ok-put_term.ensures in
    text_with_term _ _ _ vars coeffs place _ _ h k c.loop-place.invariant refl refl wrote

pub returns : goal.returns
returns c = c.loop-place.invariant ∙ ap (λ (bs : List ℕ). c.args.text.now.bytes.items ++ bs) (terms_first c.args.vars.now c.args.coeffs.now c.loop-place.place (omega arith))

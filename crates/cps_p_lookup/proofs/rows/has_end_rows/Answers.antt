use Rattle.std.proofs.Common.{Ok, true, ap, sym, ◌≡◌, ◌∙◌, rules, FitsSigned, w64}
use Rattle.std.proofs.lemmas.Int.{to_z-of_z}
use Rattle.cps_p_lookup.proofs.Ending.{end_rows}
use Rattle.cps_p_lookup.proofs.rows.has_end_rows.Goals as goal

pub returns-then-has_value-clause-ends : goal.returns-then-has_value-clause-ends
returns-then-has_value-clause-ends c e =
    let low = c.min.result in
    let high = c.max.result in
    let fl : FitsSigned w64 low = search rules in
    let fh : FitsSigned w64 high = search rules in
    let last : c.has_value-then-has_value.result ≡ true = cc in
    end_rows c.args.store.now c.args.grid.now.exprs.now c.args.grid.now.values.now c.args.place c.args.rows.low c.args.rows.high low high
    (c.in_ok-is_row_left.ensures.live (ap Ok c.if-not-branch.false)) (c.in_ok-is_row_left-2.ensures.live (ap Ok c.if-not-branch-2.false))
    (rw (to_z-of_z w64 low fl) at (c.has_value.ensures c.if-has_value.true)) (rw (to_z-of_z w64 high fh) at (c.has_value-then-has_value.ensures last))
    (sym (c.domain-domain.ensures low) ∙ c.min.ensures.within) (sym (c.domain-domain.ensures high) ∙ c.max.ensures.within)
    (λ x o. c.min.ensures.least x (c.domain-domain.ensures x ∙ o)) (λ x o. c.max.ensures.greatest x (c.domain-domain.ensures x ∙ o))

-- One term more is marked.
use Rattle.std.proofs.Common.{◌+◌, ℤ, get_or, rules, set, subst, sym, w64, pos, false, FitsSigned}
use Rattle.std.proofs.lemmas.Int.{to_z-of_z}
use Rattle.cps_reform.specs.declared.held.Held.{Held}
use Rattle.cps_reform.proofs.CoreMarks.{MarkedUpTo, marked-more}
use Rattle.cps_reform.proofs.mark.mark_terms.Goals as goal

abbrev none : Held
none = record { weight = 0; subject = 0; bound = pos 0; in_core = false }

pub loop-place-preserved : goal.loop-place-preserved
loop-place-preserved c =
    let us = c.loop-place.terms in
    let i = c.loop-place.place in
    let t = get_or us i none in
    let fits : FitsSigned w64 t.bound = search rules in
    subst (λ (v : ℤ). MarkedUpTo c.args.terms.now (set us i (record { weight = t.weight; subject = t.subject; bound = v; in_core = c.is_in_core-in_core.result })) c.args.failed c.args.decisions.now (i + 1)) (sym (to_z-of_z w64 t.bound fits))
    (marked-more c.args.terms.now us c.args.failed c.args.decisions.now i c.is_in_core-in_core.result c.loop-place.invariant c.loop-place-test.true c.is_in_core-in_core.ensures)

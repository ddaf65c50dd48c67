use Rattle.std.proofs.Common.{◌≡◌, ◌∙◌, sym, true, false, get_or, pos, rules, FitsSigned, w64}
use Rattle.std.proofs.lemmas.Int.{to_z-of_z}
use Rattle.cps_domain.specs.Window.{contains}
use Rattle.cps_p_lookup.proofs.Missing.{excludes_more}
use Rattle.cps_p_lookup.proofs.gaps.exclude_outside.Goals as goal

pub loop-value-preserved : goal.loop-value-preserved
loop-value-preserved c =
    let v = get_or c.args.missing.now c.loop-value.value-index (pos 0) in
    let fits : FitsSigned w64 v = search rules in
    let no : contains c.args.domain.now v ≡ false = rw (to_z-of_z w64 v fits) at (sym c.contains.ensures ∙ c.if-contains.false) in
    excludes_more c.args.subject (λ x. contains c.args.domain.now x ≡ true) c.args.found.now.items c.loop-value.found.items c.push.new.self.items (record { target = c.atom-target.result; hint = record { a = pos 0; b = pos 0 } }) v c.loop-value.invariant
    c.in_ok-push.ensures.items (rw (to_z-of_z w64 v fits) at c.atom-target.ensures) (λ h. let e : false ≡ true = sym no ∙ h in cc)

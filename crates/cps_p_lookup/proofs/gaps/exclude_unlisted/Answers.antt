-- Each value that is added is not listed.
use Rattle.std.specs.Prelude.{Contains}
use Rattle.std.proofs.Common.{true≢false, sym, ◌∙◌, get_or, pos, rules, FitsSigned, w64}
use Rattle.std.proofs.lemmas.Int.{to_z-of_z}
use Rattle.cps_p_lookup.proofs.Missing.{excludes_more}
use Rattle.cps_p_lookup.proofs.gaps.exclude_unlisted.Goals as goal

pub loop-value-preserved : goal.loop-value-preserved
loop-value-preserved c =
    let v = get_or c.args.missing.now c.loop-value.value-index (pos 0) in
    let fits : FitsSigned w64 v = search rules in
    let decided = simp to_z-of_z at c.is_listed.ensures in
    excludes_more c.args.subject (Contains c.args.listed.now) c.args.found.now.items c.loop-value.found.items c.push.new.self.items (record { target = c.atom-target.result; hint = record { a = pos 0; b = pos 0 } }) v c.loop-value.invariant
    c.in_ok-push.ensures.items (rw (to_z-of_z w64 v fits) at c.atom-target.ensures) (λ h. true≢false (sym (decided.1 h) ∙ c.if-is_listed.false))

use Rattle.std.specs.Prelude.{Contains}
use Rattle.std.proofs.Common.{ℤ, List, subst, sym}
use Rattle.cps_p_lookup.proofs.Missing.{excludes_weaker}
use Rattle.cps_p_lookup.proofs.gaps.exclude_missing.Goals as goal

pub returns : goal.returns
returns c = excludes_weaker c.args.subject (Contains c.as_slice-listed.result.now) (Contains c.args.gaps.now.listed.items) c.args.found.now.items c.exclude_unlisted.new.found.items
    (λ v h. subst (λ (ns : List ℤ). Contains ns v) (sym c.as_slice-listed.ensures.value) (c.sort.ensures.kept v h)) c.in_ok-exclude_unlisted.ensures

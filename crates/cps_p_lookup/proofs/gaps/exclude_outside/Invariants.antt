use Rattle.std.proofs.Common.{◌≡◌, true}
use Rattle.cps_domain.specs.Window.{contains}
use Rattle.cps_p_lookup.specs.Gaps.{ExcludesValues}
use Rattle.cps_p_lookup.proofs.gaps.exclude_outside.Given as goal

abbrev pub invariant-loop-value : goal.invariant-loop-value
invariant-loop-value l = ExcludesValues l.subject (λ v. contains l.domain v ≡ true) l.initial.found.items l.found.items

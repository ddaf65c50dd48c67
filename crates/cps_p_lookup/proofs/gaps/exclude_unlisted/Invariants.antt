use Rattle.std.specs.Prelude.{Contains}
use Rattle.cps_p_lookup.specs.Gaps.{ExcludesValues}
use Rattle.cps_p_lookup.proofs.gaps.exclude_unlisted.Given as goal

abbrev pub invariant-loop-value : goal.invariant-loop-value
invariant-loop-value l = ExcludesValues l.subject (Contains l.listed) l.initial.found.items l.found.items

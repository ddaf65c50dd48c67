use Rattle.std.proofs.Common.{ℕ, ◌<◌, get_or}
use Rattle.cps_p_lookup.specs.Gaps.{IsListedAt}
use Rattle.cps_p_lookup.proofs.places.list_values.Given as goal

abbrev pub invariant-loop-place : goal.invariant-loop-place
invariant-loop-place l = (k : ℕ) → k < l.place → IsListedAt l.store l.lookup.index l.lookup.target (get_or l.lookup.exprs.now k 0) k l.values.items

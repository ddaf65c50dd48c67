-- What the terms so far give each variable, and what those that are left give; how large it is.
use Rattle.std.specs.Prelude.{unsigned_abs}
use Rattle.std.proofs.Common.{◌≡◌, ℕ, ◌*◌, ◌^◌, ◌≤◌, ◌+ℤ◌, drop}
use Rattle.cps_instance.specs.Lengths.{coefficient_of}
use Rattle.cps_instance.specs.Merging.{merged_coefficient}
use Rattle.cps_instance.proofs.spans.merged.Given as goal

abbrev pub invariant-loop-k : goal.invariant-loop-k
invariant-loop-k l =
    ((v : ℕ) → merged_coefficient l.merged v +ℤ coefficient_of v (drop (l.k) l.expr.vars) (drop (l.k) l.expr.coeffs) ≡ coefficient_of v l.expr.vars l.expr.coeffs)
    × ((v : ℕ) → unsigned_abs (merged_coefficient l.merged v) ≤ 2 ^ 63 * l.k)

use Rattle.std.proofs.Common.{◌≡◌, ◌+◌, ◌≤◌, ◌+ℤ◌, drop}
use Rattle.std.specs.Prelude.{unsigned_abs}
use Rattle.cps_reform.specs.Cores.{core_bound, core_size}
use Rattle.cps_reform.proofs.reform.core_bound.Given as goal

abbrev pub invariant-loop-term : goal.invariant-loop-term
invariant-loop-term l = record {
  sum : core_bound l.terms ≡ l.sum +ℤ core_bound (drop l.term-index l.terms);
  size : unsigned_abs l.sum + core_size (drop l.term-index l.terms) ≤ core_size l.terms;
}

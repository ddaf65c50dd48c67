-- The ends so far with those of the terms that are left are the ends of all, and the reach that is left bounds the rest.
use Rattle.std.proofs.Common.{ℕ, ◌+◌, ◌<◌, ◌^◌, drop, unsigned_abs, ℤ, ◌+ℤ◌}
use Rattle.cps_log.specs.Boxes.{HasEnds}
use Rattle.cps_rup.specs.Domains.{box_in}
use Rattle.cps_subjects.specs.Domains.{HasReach}
use Rattle.cps_subjects.proofs.sums.sum_ends.Given as goal

abbrev pub invariant-loop-k : goal.invariant-loop-k
invariant-loop-k l = record {
  ends : (low high : ℤ) → HasEnds (box_in l.domains) (drop l.k l.vars) (drop l.k l.coeffs) low high → HasEnds (box_in l.domains) l.vars l.coeffs (l.ends.low +ℤ low) (l.ends.high +ℤ high);
  reach : (n : ℕ) × HasReach (box_in l.domains) (drop l.k l.vars) (drop l.k l.coeffs) n × (unsigned_abs l.ends.low + n < 2 ^ 62) × (unsigned_abs l.ends.high + n < 2 ^ 62);
}

-- The sum so far and the terms that are left make the whole, and the same of the weight.
use Rattle.std.proofs.Common.{◌≡◌, ◌+◌, ◌≤◌, drop, unsigned_abs, ◌+ℤ◌}
use Rattle.cps_model.specs.Values.{sum_of}
use Rattle.cps_model.specs.Reach.{weight_of}
use Rattle.cps_cert.proofs.values.sum_of.Given as goal

abbrev pub invariant-loop-k : goal.invariant-loop-k
invariant-loop-k l = record {
  whole : l.sum +ℤ sum_of l.values (drop l.k l.vars) (drop l.k l.coeffs) ≡ sum_of l.values l.vars l.coeffs;
  near : unsigned_abs l.sum + weight_of l.values (drop l.k l.vars) (drop l.k l.coeffs) ≤ weight_of l.values l.vars l.coeffs;
}

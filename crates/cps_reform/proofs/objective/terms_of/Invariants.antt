-- The terms so far, and those of the references that are left.
use Rattle.std.proofs.Common.{◌≡◌, ◌++◌, drop}
use Rattle.cps_instance.specs.Writing.{terms_of}
use Rattle.cps_reform.proofs.objective.terms_of.Given as goal

abbrev pub invariant-loop-k : goal.invariant-loop-k
invariant-loop-k l = l.terms.items ++ terms_of (drop l.k l.vars) (drop l.k l.coeffs) ≡ terms_of l.vars l.coeffs

-- The values so far are within the domains.
use Rattle.std.proofs.Common.{◌≡◌, take, true}
use Rattle.cps_model.specs.Solutions.{are_within}
use Rattle.cps_cert.proofs.assignments.least_values.Given as goal

abbrev pub invariant-loop-variable : goal.invariant-loop-variable
invariant-loop-variable l = are_within (take l.variable-index l.variables) l.values.items ≡ true

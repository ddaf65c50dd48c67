-- So many variables are made.
use Rattle.std.proofs.Common.{◌≡◌, replicate}
use Rattle.cps_gen.specs.Parts.{up_to}
use Rattle.cps_gen.proofs.parts.variables.Given as goal

abbrev pub invariant-loop : goal.invariant-loop
invariant-loop l = l.variables.items ≡ replicate l.counter (up_to l.greatest)

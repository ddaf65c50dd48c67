-- The numbers below the index are listed.
use Rattle.std.proofs.Common.{◌≡◌}
use Rattle.cps_gen.specs.Parts.{references}
use Rattle.cps_gen.proofs.parts.references.Given as goal

abbrev pub invariant-loop-number : goal.invariant-loop-number
invariant-loop-number l = l.refs.items ≡ references l.number

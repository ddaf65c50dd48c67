-- None of the literals so far is fixed to false.
use Rattle.std.proofs.Common.{ℕ, ℤ, ◌<◌, get_or}
use Rattle.cps_log.specs.Boxes.{IsFixedFalse}
use Rattle.cps_rup.specs.Domains.{box_in}
use Rattle.cps_cert.proofs.fixed.any_fixed_false.Given as goal

abbrev pub invariant-loop-literal : goal.invariant-loop-literal
invariant-loop-literal l = (k : ℕ) (d : ℤ) → k < l.literal-index → IsFixedFalse (box_in l.domains) (get_or l.literals k d) → ⊥

-- The literals so far are fixed so.
use Rattle.std.specs.Prelude.{All}
use Rattle.std.proofs.Common.{take}
use Rattle.cps_log.specs.Boxes.{IsFixedTrue}
use Rattle.cps_rup.specs.Domains.{box_in}
use Rattle.cps_cert.proofs.fixed.all_fixed_true.Given as goal

abbrev pub invariant-loop-literal : goal.invariant-loop-literal
invariant-loop-literal l = All (IsFixedTrue (box_in l.domains)) (take l.literal-index l.literals)

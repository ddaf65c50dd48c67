-- What the literals that are left need, so that two of all are fixed to true.
use Rattle.std.proofs.Common.{drop}
use Rattle.cps_log.specs.Boxes.{IsFixedTrue}
use Rattle.cps_rup.specs.Domains.{box_in}
use Rattle.cps_cert.proofs.Pairs.{MoreNeeded}
use Rattle.cps_cert.proofs.fixed.two_fixed_true.Given as goal

abbrev pub invariant-loop-literal : goal.invariant-loop-literal
invariant-loop-literal l = MoreNeeded (IsFixedTrue (box_in l.domains)) l.found (drop l.literal-index l.literals) l.literals

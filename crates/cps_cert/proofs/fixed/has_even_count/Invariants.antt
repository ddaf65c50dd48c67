-- So many of the literals so far are fixed to true, and the others to false.
use Rattle.std.proofs.Common.{◌≤◌, drop}
use Rattle.cps_rup.specs.Domains.{box_in}
use Rattle.cps_cert.proofs.Pairs.{IsCounted}
use Rattle.cps_cert.proofs.fixed.has_even_count.Given as goal

abbrev pub invariant-loop-literal : goal.invariant-loop-literal
invariant-loop-literal l = record {
  room : l.count ≤ l.literal-index;
  counted : IsCounted (box_in l.domains) l.count (drop l.literal-index l.literals) l.literals;
}

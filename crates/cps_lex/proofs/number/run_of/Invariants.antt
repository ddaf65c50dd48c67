use Rattle.std.proofs.Common.{◌≡◌, ◌+◌, drop, false}
use Rattle.cps_lex.specs.Scan.{number_run, has_signs}
use Rattle.cps_lex.proofs.number.run_of.Given as goal

abbrev pub invariant-loop-i : goal.invariant-loop-i
invariant-loop-i l = record {
  run : l.i + number_run l.signs l.marked (drop l.i l.rest) ≡ number_run l.signs false l.rest;
  same : l.signs ≡ has_signs l.rest;
}

use Rattle.std.proofs.Common.{◌≡◌, vec_len}
use Rattle.cps_crew.specs.Turning.{AreFresh}
use Rattle.cps_crew.proofs.interleaved.crew_of.Given as goal

abbrev pub invariant-loop-number : goal.invariant-loop-number
invariant-loop-number g l = record {
  count : vec_len l.crew ≡ l.number;
  each : AreFresh g.W.Member.known l.model l.options l.crew.items;
}

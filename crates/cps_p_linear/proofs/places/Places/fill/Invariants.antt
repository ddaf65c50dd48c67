use Rattle.std.proofs.Common.{◌≡◌, length}
use Rattle.cps_p_linear.specs.Chains.{AreChained}
use Rattle.cps_p_linear.proofs.places.Places.fill.Given as goal

abbrev pub invariant-loop-place : goal.invariant-loop-place
invariant-loop-place l = record {
  size : length l.self.heads.items ≡ length l.terms;
  count : length l.self.nexts.items ≡ l.place;
  chained : AreChained l.terms (length l.terms) l.self.heads.items l.self.nexts.items l.place;
}

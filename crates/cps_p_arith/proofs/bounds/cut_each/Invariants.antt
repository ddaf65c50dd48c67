use Rattle.std.proofs.Common.{take, ℤ, List, length, ◌≡◌}
use Rattle.cps_literal.specs.Truth.{value_at}
use Rattle.cps_p_arith.specs.Ranges.{IsIn}
use Rattle.cps_p_arith.specs.Demands.{AreHeldEach, AreEndsNow, IsCutAt}
use Rattle.cps_trail.specs.Trail.{Trail}
use Rattle.std.specs.List.{AllZip}
use Rattle.cps_p_arith.proofs.bounds.cut_each.Given as goal

abbrev pub invariant-loop-k : goal.invariant-loop-k
invariant-loop-k l = record {
  len : length l.ends.items ≡ l.k;
  held : (xs : List ℤ) → AreHeldEach xs l.exprs l.whole → IsIn l.piece.ends (value_at xs l.piece.subject) → AreHeldEach xs (take l.k l.exprs) l.ends.items;
  cut : (s : Trail) → AllZip (AreEndsNow s) l.exprs l.whole → AllZip (IsCutAt s l.piece) (take l.k l.exprs) l.ends.items;
}

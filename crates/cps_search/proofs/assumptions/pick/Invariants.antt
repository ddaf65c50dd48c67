use Rattle.std.proofs.Common.{◌≡◌, ◌++◌, ℤ, List, length, drop, true}
use Rattle.cps_search.specs.Assumptions.{AreOnceInOrder, is_marked}
use Rattle.cps_search.proofs.assumptions.pick.Given as goal

abbrev pub invariant-loop-reference : goal.invariant-loop-reference
invariant-loop-reference l = record {
  same_length : length l.marks ≡ length l.fn.marks;
  rest : (rest : List ℤ) → AreOnceInOrder (λ r. is_marked l.marks r ≡ true) (drop l.reference-index l.assumptions) rest
      → AreOnceInOrder (λ r. is_marked l.fn.marks r ≡ true) l.assumptions (l.core.items ++ rest);
}

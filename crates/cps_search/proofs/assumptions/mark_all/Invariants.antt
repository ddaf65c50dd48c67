use Rattle.std.proofs.Common.{◌≡◌, ◌⊎◌, ℤ, length, take, true}
use Rattle.std.specs.Prelude.{◌↔◌}
use Rattle.std.specs.List.{Contains}
use Rattle.cps_instance.specs.Posting.{atom_of}
use Rattle.cps_search.specs.Assumptions.{is_marked}
use Rattle.cps_search.proofs.assumptions.mark_all.Given as goal

abbrev pub invariant-loop-atom : goal.invariant-loop-atom
invariant-loop-atom l = record {
  same_length : length l.marks ≡ length l.fn.marks;
  marks : (r : ℤ) → is_marked l.marks r ≡ true ↔ ((is_marked l.fn.marks r ≡ true) ⊎ Contains (take l.atom-index l.decisions) (atom_of r));
}

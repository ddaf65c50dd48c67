-- What is left is the box of the atoms so far.
use Rattle.std.proofs.Common.{◌≡◌, ℕ, ℤ, length, take}
use Rattle.cps_unit.specs.Boxes.{denied}
use Rattle.cps_rup.specs.Domains.{box_in}
use Rattle.cps_rup.proofs.trailed.TrailedDomains.keep_box.Given as goal

abbrev pub invariant-loop-atom : goal.invariant-loop-atom
invariant-loop-atom l = record {
  first : l.self.first ≡ l.fn.self.first;
  count : length l.self.now ≡ length l.fn.self.now;
  kept : (s : ℕ) (x : ℤ) → box_in l.self.now s x ≡ denied (box_in l.fn.self.now) (take l.atom-index l.clause) s x;
}

-- The subjects at the places so far are fixed.
use Rattle.std.proofs.Common.{ℕ, ◌<◌, ◌≤◌, get_or}
use Rattle.cps_branch.specs.Fixed.{IsFixed}
use Rattle.cps_branch.proofs.scan.first_open_place.Given as goal

abbrev pub invariant-loop-place : goal.invariant-loop-place
invariant-loop-place l = (i : ℕ) → l.from ≤ i → i < l.place → IsFixed l.store (get_or l.order i 0)

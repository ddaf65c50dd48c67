-- What is still marked is spoken of by the atoms that are left.
use Rattle.std.proofs.Common.{ℕ, ◌≡◌, ◌<◌, length, drop, get_or, true, false}
use Rattle.cps_branch.specs.Activities.{speaks_of}
use Rattle.cps_branch.proofs.bump.unmark.Given as goal

abbrev pub invariant-loop-atom : goal.invariant-loop-atom
invariant-loop-atom l = (i : ℕ) → i < length l.marks → get_or l.marks i false ≡ true → speaks_of (drop l.atom-index l.clause) i ≡ true

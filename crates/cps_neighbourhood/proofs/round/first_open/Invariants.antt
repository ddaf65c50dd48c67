-- None so far is open.
use Rattle.std.proofs.Common.{ℕ, ◌≤◌, ◌<◌, get_or}
use Rattle.cps_literal.specs.declared.atom.Atom.{Atom}
use Rattle.cps_branch.specs.Choice.{IsUndecided}
use Rattle.cps_neighbourhood.proofs.round.first_open.Given as goal

abbrev pub invariant-loop-place : goal.invariant-loop-place
invariant-loop-place l = (j : ℕ) (d : Atom) → l.from ≤ j → j < l.place → IsUndecided l.store (get_or l.decisions j d) → ⊥

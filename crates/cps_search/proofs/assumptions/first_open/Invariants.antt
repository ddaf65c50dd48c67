use Rattle.std.proofs.Common.{ℕ, ◌<◌, get_or, ℤ}
use Rattle.cps_instance.specs.Posting.{atom_of}
use Rattle.cps_branch.specs.Choice.{IsUndecided}
use Rattle.cps_search.proofs.assumptions.first_open.Given as goal

abbrev pub invariant-loop-reference : goal.invariant-loop-reference
invariant-loop-reference l = (i : ℕ) (d : ℤ) → i < l.reference-index → IsUndecided l.store (atom_of (get_or l.assumptions i d)) → ⊥

use Rattle.std.proofs.Common.{ℕ, ◌<◌, ◌≤◌}
use Rattle.std.specs.Prelude.{slice_index_or}
use Rattle.cps_literal.specs.declared.atom.Atom.{Atom}
use Rattle.cps_trail.specs.Trail.{IsTrueNow}
use Rattle.cps_p_span.proofs.seen.first_untrue.Given as goal

abbrev pub invariant-loop-i : goal.invariant-loop-i
invariant-loop-i l = (k : ℕ) (d : Atom) → l.from ≤ k → k < l.i → IsTrueNow l.store (slice_index_or l.atoms k d)

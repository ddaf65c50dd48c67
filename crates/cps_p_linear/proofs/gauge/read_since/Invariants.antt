use Rattle.std.proofs.Common.{ℕ, ◌≡◌, ◌<◌, length, get_or}
use Rattle.cps_instance.specs.declared.term.Term.{Term}
use Rattle.cps_trail.specs.Trail.{IsLastOn}
use Rattle.cps_p_linear.proofs.gauge.read_since.Given as goal

abbrev pub invariant-loop-place : goal.invariant-loop-place
invariant-loop-place l = record {
  count : length l.since.items ≡ l.place;
  last : (j : ℕ) (d : Term) → j < l.place → IsLastOn l.store.entries (get_or l.terms j d).subject (get_or l.since.items j 0);
}

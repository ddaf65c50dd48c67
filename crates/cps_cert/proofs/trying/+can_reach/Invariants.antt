-- What is reached has, of the variable, a value that was not tried so far.
use Rattle.std.specs.Prelude.{Contains, slice_index_or}
use Rattle.std.proofs.Common.{◌≡◌, ℕ, ◌+◌, ◌⊎◌, pos, ◌≤ℤ◌, ◌<ℤ◌, length, drop, get_or, true}
use Rattle.cps_model.specs.declared.constraint.Constraint.{Constraint}
use Rattle.cps_model.specs.Values.{variable_value}
use Rattle.cps_model.specs.Solutions.{IsWithinDomains}
use Rattle.cps_domain.specs.Window.{is_among}
use Rattle.cps_rup.specs.Domains.{box_in}
use Rattle.cps_cert.specs.Trying.{IsGood, CanReach}
use Rattle.cps_cert.proofs.trying.+can_reach.Given as goal

abbrev pub decreases-can_reach : goal.decreases-can_reach
decreases-can_reach l = length l.unfixed.now

abbrev pub invariant-loop-value : goal.invariant-loop-value
invariant-loop-value l = record {
  within : IsWithinDomains l.trial.model.now l.values;
  same : (v : ℕ) → (Contains l.unfixed v → ⊥) → variable_value l.values v ≡ variable_value l.fn.values v;
  from : (get_or l.least-items l.least-index (pos 0, pos 0)).0 ≤ℤ l.value;
  left : (d : Constraint) (r : CanReach (box_in l.trial.domains.now) l.unfixed (λ a. IsGood l.trial.model.now l.trial.sums.now l.trial.clause.now (box_in l.trial.domains.now) (slice_index_or l.trial.model.now.constraints l.trial.constraint d) a) l.fn.values) → (is_among (drop (l.least-index + 1) l.least-items) (variable_value r.assignment l.variable) ≡ true) ⊎ ((l.value ≤ℤ variable_value r.assignment l.variable) × (variable_value r.assignment l.variable <ℤ l.value-end));
}

abbrev pub invariant-loop-least : goal.invariant-loop-least
invariant-loop-least l = record {
  within : IsWithinDomains l.trial.model.now l.values;
  same : (v : ℕ) → (Contains l.unfixed v → ⊥) → variable_value l.values v ≡ variable_value l.fn.values v;
  left : (d : Constraint) (r : CanReach (box_in l.trial.domains.now) l.unfixed (λ a. IsGood l.trial.model.now l.trial.sums.now l.trial.clause.now (box_in l.trial.domains.now) (slice_index_or l.trial.model.now.constraints l.trial.constraint d) a) l.fn.values) → is_among (drop l.least-index l.least-items) (variable_value r.assignment l.variable) ≡ true;
}

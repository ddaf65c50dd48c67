-- Each constraint so far is of a kind that has a propagator.
use Rattle.std.specs.Prelude.{All}
use Rattle.std.proofs.Common.{◌≡◌, true}
use Rattle.cps_model.specs.declared.constraint.Constraint.{Constraint}
use Rattle.cps_kinds.specs.Kinds.{is_propagated}
use Rattle.cps_worker_tests.proofs.models.all_differ.Given as goal

abbrev pub invariant-loop-pair : goal.invariant-loop-pair
invariant-loop-pair l = All (λ (c : Constraint). is_propagated c.kind ≡ true) l.constraints.items

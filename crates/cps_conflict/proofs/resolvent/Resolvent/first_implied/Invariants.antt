use Rattle.std.specs.Prelude.{IfSome}
use Rattle.std.specs.List.{Any}
use Rattle.cps_conflict.specs.Drafts.{IsImpliedFrom}
use Rattle.cps_conflict.proofs.resolvent.Resolvent.first_implied.Given as goal

abbrev pub invariant-loop-count : goal.invariant-loop-count
invariant-loop-count l = IfSome l.first (λ from. Any (IsImpliedFrom l.atom from) l.self.earlier)

abbrev pub decreases-loop-count : goal.decreases-loop-count
decreases-loop-count l = l.count

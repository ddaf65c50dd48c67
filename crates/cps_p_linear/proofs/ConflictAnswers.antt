-- A conflict is not settled.
use Rattle.std.proofs.Common.{◌≡◌, Result, Ok}
use Rattle.cps_propagate.specs.declared.propagator.Answer.{Answer}
use Rattle.cps_propagate.specs.declared.propagator.Answer.TheVariants.{NoConflict, Conflict}

pub not_settled : {E : Type 0} → ◌≡◌ {A = Result Answer E} (Ok Conflict) (Ok NoConflict) → ⊥
not_settled is = cc

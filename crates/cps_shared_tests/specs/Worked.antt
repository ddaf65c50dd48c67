-- The worked models: one variable that is the objective, the same where it is at least 2, and nine variables of which
-- at least one is 1.
use Rattle.std.specs.Prelude.{◌≡◌, pos, [], ◌∷◌, Some, length}
use Rattle.cps_model.specs.declared.constraint.Constraint.{Constraint}
use Rattle.cps_model.specs.declared.constraint.Kind.TheVariants.{BoolOr, Linear}
use Rattle.cps_model.specs.declared.model.CpModel.{CpModel}
use Rattle.cps_model.specs.declared.model.Objective.{Objective}

abbrev pub the_variable : Objective
the_variable = record { vars = pos 0 ∷ []; coeffs = pos 1 ∷ []; offset = pos 0; scaling = pos 1; domain = [] }

pub record IsMinimised (m : CpModel) : Type 0 where
  pub variables : length m.variables ≡ 1
  pub objective : m.objective ≡ Some the_variable

abbrev pub at_least_two : Constraint
at_least_two = record {
  name = [];
  enforcement = [];
  kind = Linear (pos 0 ∷ []) (pos 1 ∷ []) (pos 2 ∷ pos 9223372036854775807 ∷ []);
}

pub record IsAtLeastTwo (m : CpModel) : Type 0 where
  pub constraints : m.constraints ≡ at_least_two ∷ []
  pub objective : m.objective ≡ Some the_variable

abbrev pub any_of_nine : Constraint
any_of_nine = record {
  name = [];
  enforcement = [];
  kind = BoolOr (pos 0 ∷ pos 1 ∷ pos 2 ∷ pos 3 ∷ pos 4 ∷ pos 5 ∷ pos 6 ∷ pos 7 ∷ pos 8 ∷ []);
}

pub record IsNine (m : CpModel) : Type 0 where
  pub variables : length m.variables ≡ 9
  pub constraints : m.constraints ≡ any_of_nine ∷ []

-- A model written as numbers, by which the rule of a shared pool names it.
use Rattle.std.specs.Prelude.{◌≡◌, ℕ, ℤ, List, [], ◌∷◌}
use base.Stored.{Gv, gnil, gnum, gcons}
use Rattle.cps_model.specs.declared.model.CpModel.{CpModel}
use Rattle.cps_model.specs.contracts.model.CpModel.{the_row}
use Rattle.cps_model.specs.Solutions.{IsSolution}

-- a tree of numbers as a list, before the numbers that follow it
abbrev pub written : Gv → List ℕ → List ℕ
written gnil after = 0 ∷ after
written (gnum n) after = 1 ∷ n ∷ after
written (gcons a b) after = 2 ∷ written a (written b after)

-- the numbers of a model: those of no two models are the same
unfoldable pub names_of : CpModel → List ℕ
names_of m = written (the_row.coded.code m) []

-- a solution of the model that has these names
abbrev pub IsSolutionOfNamed : List ℕ → List ℤ → Type 0
IsSolutionOfNamed names a = (m : CpModel) → names_of m ≡ names → IsSolution m a

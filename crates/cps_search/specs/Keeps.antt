-- What calls on a port keep.
use Rattle.std.specs.Prelude.{◌≡◌, ℕ}
use Rattle.cps_model.specs.declared.model.CpModel.{CpModel}

-- A port has the model and the size of its board that it had, and what lies behind it goes on as the port's law says.
pub record Keeps {Q : Type 0} (model_of : Q → CpModel) (rows_of : Q → ℕ) (stays : Q → Q → Type 0)
    (old new : Q) : Type 0 where
  pub model : model_of new ≡ model_of old
  pub rows : rows_of new ≡ rows_of old
  pub others : stays old new

-- What calls on a port keep, one call after another.
use Rattle.std.proofs.Common.{◌∙◌, ℕ, refl}
use Rattle.cps_model.specs.declared.model.CpModel.{CpModel}
use Rattle.cps_search.specs.Keeps.{Keeps}

-- where no call is made
pub keeps_none : {Q : Type 0} (model_of : Q → CpModel) (rows_of : Q → ℕ) (stays : Q → Q → Type 0) → ((p : Q) → stays p p) → (p : Q) → Keeps model_of rows_of stays p p
keeps_none {Q} model_of rows_of stays unmoved p = record { model = refl; rows = refl; others = unmoved p }

-- where one call follows another
pub keeps_then : {Q : Type 0} (model_of : Q → CpModel) (rows_of : Q → ℕ) (stays : Q → Q → Type 0) → ((p q r : Q) → stays p q → stays q r → stays p r) → (p q r : Q) → Keeps model_of rows_of stays p q → Keeps model_of rows_of stays q r
    → Keeps model_of rows_of stays p r
keeps_then {Q} model_of rows_of stays moved_on p q r h k = record { model = k.model ∙ h.model; rows = k.rows ∙ h.rows; others = moved_on p q r h.others k.others }

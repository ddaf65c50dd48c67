-- What an answer says of a document.
use Rattle.std.specs.Prelude.{◌≡◌, ℕ, Option, Some, Result, Ok, Err}
use Rattle.cps_textproto.specs.Trees.{Tree}
use Rattle.cps_model.specs.declared.fault.FaultName.{FaultName}
use Rattle.cps_model.specs.declared.model.CpModel.{CpModel}
use Rattle.cps_schema.specs.declared.error.SchemaError.{SchemaError}
use Rattle.cps_schema.specs.declared.error.SchemaError.TheVariants.{Fault, OutOfMemory}
use Rattle.cps_schema.specs.Written.{Written}
use Rattle.cps_schema.specs.Faults.{FirstFault}

-- a refusal is this fault, unless memory ran out
abbrev pub Refuses : Option (FaultName × ℕ) → SchemaError → Type 0
Refuses fault (Fault name token) = fault ≡ Some (name, token)
Refuses fault OutOfMemory = Unit {0}

-- a refusal is the document's first fault, unless memory ran out
abbrev pub IsSchemaRefusal : Written → Tree → SchemaError → Type 0
IsSchemaRefusal w tree (Fault name token) = FirstFault w tree name token
IsSchemaRefusal w tree OutOfMemory = Unit {0}

-- the answer is this model, or memory ran out
abbrev pub GivesModel : Result CpModel SchemaError → CpModel → Type 0
GivesModel (Ok model) m = model ≡ m
GivesModel (Err (Fault name token)) m = ⊥
GivesModel (Err OutOfMemory) m = Unit {0}

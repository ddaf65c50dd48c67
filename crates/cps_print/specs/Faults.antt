-- The two lines that say why an input is no valid model.
use Rattle.std.specs.Prelude.{ℕ, List, ◌++◌, codes}
use Rattle.std.specs.Fmt.{decimal}
use Rattle.cps_model.specs.declared.fault.FaultName.{FaultName}
use Rattle.cps_model.specs.declared.fault.FaultName.TheVariants.{UnknownField, Unsupported, Repeated, TwoKinds, MixedForms, WrongKind, OutOfRange, NotWhole}
use Rattle.cps_model.specs.declared.place.Place.{Place}
use Rattle.cps_model.specs.declared.place.Place.TheVariants as places
use Rattle.cps_print.specs.declared.fault.Fault.{Fault}
use Rattle.cps_print.specs.declared.fault.Fault.TheVariants as faults

abbrev pub fault_name : FaultName → List ℕ
fault_name UnknownField = codes "UnknownField"
fault_name Unsupported = codes "Unsupported"
fault_name Repeated = codes "Repeated"
fault_name TwoKinds = codes "TwoKinds"
fault_name MixedForms = codes "MixedForms"
fault_name WrongKind = codes "WrongKind"
fault_name OutOfRange = codes "OutOfRange"
fault_name NotWhole = codes "NotWhole"

abbrev pub place_text : Place → List ℕ
place_text places.Model = codes "model"
place_text (places.Variable i) = codes "variable " ++ decimal i
place_text (places.Constraint i) = codes "constraint " ++ decimal i
place_text places.Objective = codes "objective"
place_text (places.Strategy i) = codes "strategy " ++ decimal i
place_text places.Hint = codes "hint"
place_text (places.Assumption i) = codes "assumption " ++ decimal i

abbrev pub cause_text : Fault → List ℕ
cause_text (faults.Text byte) = codes "text fault at byte " ++ decimal byte
cause_text (faults.Field name byte) = codes "field fault " ++ (fault_name name ++ (codes " at byte " ++ decimal byte))
cause_text (faults.Rule rule place) = codes "invalid V" ++ (decimal rule ++ (codes " at " ++ place_text place))
cause_text faults.TooLong = codes "input longer than 67108864 bytes"

abbrev pub fault_text : Fault → List ℕ
fault_text fault = codes "status: MODEL_INVALID\n# " ++ (cause_text fault ++ codes "\n")

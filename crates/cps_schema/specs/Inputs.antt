-- What the code holds of a document, seen as what is written, and what it asks of one field.
use Rattle.std.specs.Prelude.{ℕ, List, map, Option, Some}
use denote.Ref.{Bor}
use Rattle.std.specs.Option.{option_or}
use Rattle.cps_textproto.specs.declared.tree.Field.{Field}
use Rattle.cps_textproto.specs.Trees.{values_of}
use Rattle.cps_model.specs.declared.fault.FaultName.{FaultName}
use Rattle.cps_schema.specs.declared.input.Input.{Input}
use Rattle.cps_schema.specs.Written.{Written}
use Rattle.cps_schema.specs.Tables.{Content}
use Rattle.cps_schema.specs.Faults.{is_alone, alone_fault, values_fault}

-- the texts behind references
abbrev pub names_of : List (Bor (List ℕ)) → List (List ℕ)
names_of names = map (λ name. name.now) names

abbrev pub written_of : Input → Written
written_of s = record { bytes = s.bytes.now; tokens = s.tokens.now; closed = names_of s.closed.now }

-- what is wrong with a field that takes one value, its name apart
abbrev pub single_fault : Written → Content → Field → Option (FaultName × ℕ)
single_fault w content f =
    option_or (alone_fault w f.name (is_alone f.list (values_of f.items)))
    (values_fault w (Some content) (values_of f.items))

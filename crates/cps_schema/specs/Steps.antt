-- What one field does to the reading of a message.
use Rattle.std.specs.Prelude.{◌≡◌, ℕ, Bool, List, ◌∷◌, Some}
use Rattle.cps_textproto.specs.declared.tree.Field.{Field}
use Rattle.cps_textproto.specs.Trees.{Tree, field, values_of}
use Rattle.cps_schema.specs.declared.error.SchemaError.{SchemaError}
use Rattle.cps_schema.specs.Written.{Written, token_text}
use Rattle.cps_schema.specs.declared.form.Form.{Form}
use Rattle.cps_schema.specs.Tables.{Message, Content, single, closable, formed, one_kind, use_of, is_given}
use Rattle.cps_schema.specs.Faults.{has_kind, has_other_form, fields_fault}
use Rattle.cps_schema.specs.Answers.{Refuses}

-- a field in front of others
abbrev pub field_then : Field → Tree → Tree
field_then f rest = field f.name f.list (values_of f.items) rest

-- behind fields of these names the field has no fault, so that the first is that of the others
abbrev pub Passes : Written → Message → List (List ℕ) → Field → Type 0
Passes w m before f =
    (rest : Tree) → fields_fault w m before (field_then f rest) ≡ fields_fault w m (token_text w f.name ∷ before) rest

-- behind fields of these names the field is refused
abbrev pub Stops : Written → Message → List (List ℕ) → Field → SchemaError → Type 0
Stops w m before f error = (rest : Tree) → Refuses (fields_fault w m before (field_then f rest)) error

-- A field that takes one value passes behind fields of these names, where one of them is its own as told. What it does
-- depends on nothing else of the message.
abbrev pub SinglePasses : Written → Field → Content → Bool → Type 0
SinglePasses w f content given = (m : Message) (before : List (List ℕ)) →
    use_of m (token_text w f.name) ≡ Some (single content) →
    is_given before (token_text w f.name) ≡ given → Passes w m before f

abbrev pub SingleStops : Written → Field → Content → Bool → SchemaError → Type 0
SingleStops w f content given error = (m : Message) (before : List (List ℕ)) →
    use_of m (token_text w f.name) ≡ Some (single content) →
    is_given before (token_text w f.name) ≡ given → Stops w m before f error

-- the same of a field of a kind k, where one of the names is its own, and one is any kind's, as told
abbrev pub KindPasses : Written → Field → Message → Bool → Bool → Type 0
KindPasses w f k same given = (m : Message) (before : List (List ℕ)) →
    use_of m (token_text w f.name) ≡ Some (one_kind k) →
    is_given before (token_text w f.name) ≡ same → has_kind m before ≡ given → Passes w m before f

abbrev pub KindStops : Written → Field → Message → Bool → Bool → SchemaError → Type 0
KindStops w f k same given error = (m : Message) (before : List (List ℕ)) →
    use_of m (token_text w f.name) ≡ Some (one_kind k) →
    is_given before (token_text w f.name) ≡ same → has_kind m before ≡ given → Stops w m before f error

-- the same of a field that a table can close
abbrev pub ClosablePasses : Written → Field → Content → Type 0
ClosablePasses w f content = (m : Message) (before : List (List ℕ)) →
    use_of m (token_text w f.name) ≡ Some (closable content) → Passes w m before f

abbrev pub ClosableStops : Written → Field → Content → SchemaError → Type 0
ClosableStops w f content error = (m : Message) (before : List (List ℕ)) →
    use_of m (token_text w f.name) ≡ Some (closable content) → Stops w m before f error

-- the same of a field of a form, where one of the names is that of a field of the other form, as told
abbrev pub FormedPasses : Written → Field → Form → Content → Bool → Type 0
FormedPasses w f form content mixed = (m : Message) (before : List (List ℕ)) →
    use_of m (token_text w f.name) ≡ Some (formed form content) →
    has_other_form m form before ≡ mixed → Passes w m before f

abbrev pub FormedStops : Written → Field → Form → Content → Bool → SchemaError → Type 0
FormedStops w f form content mixed error = (m : Message) (before : List (List ℕ)) →
    use_of m (token_text w f.name) ≡ Some (formed form content) →
    has_other_form m form before ≡ mixed → Stops w m before f error

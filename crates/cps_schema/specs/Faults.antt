-- Which field of a document is refused, why, and at which token.
use Rattle.std.specs.Prelude.{◌≡◌, ℕ, ◌+◌, Bool, true, false, if◌then◌else◌, List, [], ◌∷◌, Option, Some, None, Result, Ok, Err, codes}
use Rattle.std.specs.Option.{option_or}
use Rattle.std.specs.List.{list_any}
use Rattle.std.specs.Str.{bytes_eq}
use Rattle.cps_textproto.specs.Trees.{Tree, no_fields, field, Values, no_values, scalar_value, message_value}
use Rattle.cps_model.specs.declared.fault.FaultName.{FaultName}
use Rattle.cps_model.specs.declared.fault.FaultName.TheVariants.{UnknownField, Unsupported, Repeated, TwoKinds, MixedForms, WrongKind}
use Rattle.cps_schema.specs.declared.form.Form.{Form}
use Rattle.cps_schema.specs.declared.form.Form.TheVariants.{Older, Newer}
use Rattle.cps_schema.specs.Written.{Written, token_text}
use Rattle.cps_schema.specs.Numbers.{number_fault}
use Rattle.cps_schema.specs.Texts.{text_at}
use Rattle.cps_schema.specs.Members.{member_at}
use Rattle.cps_schema.specs.Truths.{truth_at}
use Rattle.cps_schema.specs.Tables.{Message, model_message, Content, number, truth, text, member, message, Use, single, repeated, closable, formed, formed_single, one_kind, unsupported, is_given, use_of, content_of}

-- with the token at which it is refused
abbrev pub refused_at : ℕ → Option FaultName → Option (FaultName × ℕ)
refused_at token None = None
refused_at token (Some name) = Some (name, token)

-- what is wrong with a scalar that is no text
abbrev pub text_fault : Option (List ℕ) → Option FaultName
text_fault None = Some WrongKind
text_fault (Some bytes) = None

-- what is wrong with one that is no truth value
abbrev pub truth_fault : Option Bool → Option FaultName
truth_fault None = Some WrongKind
truth_fault (Some b) = None

-- what is wrong with one that gives no member of an enum
abbrev pub member_fault : Result ℕ FaultName → Option FaultName
member_fault (Ok n) = None
member_fault (Err name) = Some name

-- a scalar's fault is at its first token, the `-` of a signed one
abbrev pub scalar_fault : Written → Option Content → ℕ → ℕ → Option (FaultName × ℕ)
scalar_fault w None first end = None
scalar_fault w (Some (number type)) first end = refused_at first (number_fault w type first)
scalar_fault w (Some truth) first end = refused_at first (truth_fault (truth_at w first))
scalar_fault w (Some text) first end = refused_at first (text_fault (text_at w first end))
scalar_fault w (Some (member enum)) first end = refused_at first (member_fault (member_at w enum first))
scalar_fault w (Some (message m)) first end = Some (WrongKind, first)

-- a message's fault, by the fault of its fields as each message's
abbrev pub message_fault : Option Content → ℕ → (Message → Option (FaultName × ℕ)) → Option (FaultName × ℕ)
message_fault None first inner = None
message_fault (Some (number type)) first inner = Some (WrongKind, first)
message_fault (Some truth) first inner = Some (WrongKind, first)
message_fault (Some text) first inner = Some (WrongKind, first)
message_fault (Some (member enum)) first inner = Some (WrongKind, first)
message_fault (Some (message m)) first inner = inner m

abbrev pub is_kind : Option Use → Bool
is_kind None = false
is_kind (Some (single content)) = false
is_kind (Some (repeated content)) = false
is_kind (Some (closable content)) = false
is_kind (Some (formed form content)) = false
is_kind (Some (formed_single form content)) = false
is_kind (Some (one_kind m)) = true
is_kind (Some unsupported) = false

-- one of the names is that of a kind
unfoldable pub has_kind : Message → List (List ℕ) → Bool
has_kind m names = list_any (λ name. is_kind (use_of m name)) names

-- the use is that of a field of the other form
abbrev pub is_other_form : Form → Option Use → Bool
is_other_form Older (Some (formed Newer content)) = true
is_other_form Older (Some (formed_single Newer content)) = true
is_other_form Newer (Some (formed Older content)) = true
is_other_form Newer (Some (formed_single Older content)) = true
is_other_form form other = false

-- one of the names is that of a field of the other form
unfoldable pub has_other_form : Message → Form → List (List ℕ) → Bool
has_other_form m form names = list_any (λ name. is_other_form form (use_of m name)) names

-- what is wrong with a field's name, given the names that are closed and those of the fields before it in the same
-- message
abbrev pub name_fault : List (List ℕ) → Message → List (List ℕ) → List ℕ → Option Use → Option FaultName
name_fault closed m before name None = Some UnknownField
name_fault closed m before name (Some unsupported) = Some Unsupported
name_fault closed m before name (Some (repeated content)) = None
name_fault closed m before name (Some (closable content)) = if is_given closed name then Some Unsupported else None
name_fault closed m before name
    (Some (formed form content)) = if has_other_form m form before then Some MixedForms else None
name_fault closed m before name (Some (formed_single form content)) =
    if is_given before name then Some Repeated
    else (if has_other_form m form before then Some MixedForms else None)
name_fault closed m before name (Some (single content)) = if is_given before name then Some Repeated else None
name_fault closed m before name (Some (one_kind k)) =
    if is_given closed name then Some Unsupported
    else (if is_given before name then Some Repeated
    else (if has_kind m before then Some TwoKinds else None))

-- one value that stands in no list
abbrev pub is_alone : Bool → Values → Bool
is_alone true _ = false
is_alone false no_values = false
is_alone false (scalar_value first end no_values) = true
is_alone false (scalar_value first end (scalar_value f e more)) = false
is_alone false (scalar_value first end (message_value f tree more)) = false
is_alone false (message_value first inner no_values) = true
is_alone false (message_value first inner (scalar_value f e more)) = false
is_alone false (message_value first inner (message_value f tree more)) = false

-- the `[` of a field's list: the second token behind the name where a colon is the first, and else the first
unfoldable pub bracket : Written → ℕ → ℕ
bracket w name = if bytes_eq (token_text w (name + 1)) (codes ":") then name + 2 else name + 1

-- a list where one value is taken
abbrev pub alone_fault : Written → ℕ → Bool → Option (FaultName × ℕ)
alone_fault w name alone = if alone then None else Some (WrongKind, bracket w name)

abbrev pub list_fault : Written → Option Use → ℕ → Bool → Option (FaultName × ℕ)
list_fault w None name alone = None
list_fault w (Some (single content)) name alone = alone_fault w name alone
list_fault w (Some (repeated content)) name alone = None
list_fault w (Some (closable content)) name alone = None
list_fault w (Some (formed form content)) name alone = None
list_fault w (Some (formed_single form content)) name alone = alone_fault w name alone
list_fault w (Some (one_kind m)) name alone = alone_fault w name alone
list_fault w (Some unsupported) name alone = None

-- what is wrong with a field, its values apart
abbrev pub field_fault : Written → Message → List (List ℕ) → ℕ → Bool → Values → Option (FaultName × ℕ)
field_fault w m before name list values =
    option_or (refused_at name (name_fault w.closed m before (token_text w name) (use_of m (token_text w name))))
    (list_fault w (use_of m (token_text w name)) name (is_alone list values))

abbrev mutual
  -- the first fault of a message's fields, each before its values; before: the names of the fields before these
  pub fields_fault : Written → Message → List (List ℕ) → Tree → Option (FaultName × ℕ)
  fields_fault w m before no_fields = None
  fields_fault w m before (field name list values rest) =
      option_or (field_fault w m before name list values)
      (option_or (values_fault w (content_of (use_of m (token_text w name))) values)
      (fields_fault w m (token_text w name ∷ before) rest))

  -- the first fault of a field's values, in order
  pub values_fault : Written → Option Content → Values → Option (FaultName × ℕ)
  values_fault w content no_values = None
  values_fault w content (scalar_value first end rest) =
      option_or (scalar_fault w content first end) (values_fault w content rest)
  values_fault w content (message_value first inner rest) =
      option_or (message_fault content first (λ m. fields_fault w m [] inner)) (values_fault w content rest)

-- the first field in document order that is refused: with this name, at this token
abbrev pub FirstFault : Written → Tree → FaultName → ℕ → Type 0
FirstFault w tree name token = fields_fault w model_message [] tree ≡ Some (name, token)

-- What the fields of a message give, one by one, and what was read of them so far.
use Rattle.std.specs.Prelude.{◌≡◌, ℕ, ◌+◌, Bool, true, false, ◌&&◌, ◌||◌, not, if◌then◌else◌, List, [], ◌∷◌, ◌++◌, map, Option, Some, None, ℤ}
use Rattle.std.specs.Option.{option_or}
use Rattle.std.specs.List.{list_any}
use Rattle.std.specs.Str.{bytes_eq}
use Rattle.std.specs.Global.{Global}
use Rattle.std.specs.declared.vec.IntoIter.{IntoIter}
use Rattle.std.specs.Vec.Iter.{into_iter_items}
use Rattle.cps_textproto.specs.declared.tree.Field.{Field}
use Rattle.cps_textproto.specs.Trees.{Tree, Values, values_of}
use Rattle.cps_model.specs.declared.fault.FaultName.{FaultName}
use Rattle.cps_model.specs.declared.fault.FaultName.TheVariants.{Repeated, MixedForms}
use Rattle.cps_model.specs.declared.model.LinearExpr.{LinearExpr}
use Rattle.cps_schema.specs.declared.form.Form.{Form}
use Rattle.cps_schema.specs.declared.number.Number.TheVariants.{Int64, Int32}
use Rattle.cps_schema.specs.declared.gather.Contents.{Contents}
use Rattle.cps_schema.specs.declared.gather.Contents.TheVariants.{References, Numbers, Truths, Expressions}
use Rattle.cps_schema.specs.declared.gather.Takes.{Takes}
use Rattle.cps_schema.specs.declared.gather.Takes.TheVariants.{Many, One, ManyOf, OneOf}
use Rattle.cps_schema.specs.declared.gather.Line.{Line}
use Rattle.cps_schema.specs.declared.gather.Slot.{Slot}
use Rattle.cps_schema.specs.declared.gather.Gathered.{Gathered}
use Rattle.cps_schema.specs.Written.{Written, token_text}
use Rattle.cps_schema.specs.Tables.{Message, Content, number, truth, message, expression_message, Use, single, repeated, formed, formed_single, Table, table_of, unsupported_names}
use Rattle.cps_schema.specs.Faults.{refused_at, is_alone, alone_fault, has_other_form, values_fault}
use Rattle.cps_schema.specs.Readings.{first_or, value_numbers, value_truths, value_messages, read_expression, numbers, truths, expressions, gives}
use Rattle.cps_schema.specs.Slots.{AreGivenSlots}
use Rattle.cps_schema.specs.Parts.{is_other}

abbrev pub content_taken : Contents → Content
content_taken References = number Int32
content_taken Numbers = number Int64
content_taken Truths = truth
content_taken Expressions = message expression_message

abbrev pub use_taken : Takes → Use
use_taken (Many contents) = repeated (content_taken contents)
use_taken (One contents) = single (content_taken contents)
use_taken (ManyOf form contents) = formed form (content_taken contents)
use_taken (OneOf form contents) = formed_single form (content_taken contents)

abbrev pub contents_of : Takes → Contents
contents_of (Many contents) = contents
contents_of (One contents) = contents
contents_of (ManyOf form contents) = contents
contents_of (OneOf form contents) = contents

-- one value is taken
abbrev pub takes_one : Takes → Bool
takes_one (Many contents) = false
takes_one (One contents) = true
takes_one (ManyOf form contents) = false
takes_one (OneOf form contents) = true

-- the form of the fields, where there are two
abbrev pub form_taken : Takes → Option Form
form_taken (Many contents) = None
form_taken (One contents) = None
form_taken (ManyOf form contents) = Some form
form_taken (OneOf form contents) = Some form

abbrev pub entry_of : Line → List ℕ × Use
entry_of line = (line.0.now, use_taken line.1)

-- the fields of a message are these, and all are read
pub record IsTableOf (m : Message) (lines : List Line) : Type 0 where
  pub table : table_of m ≡ map entry_of lines
  pub unsupported : unsupported_names m ≡ []

-- no two fields have one name
abbrev pub are_apart : List Line → Bool
are_apart [] = true
are_apart (line ∷ lines) = not (list_any (λ (other : Line). bytes_eq other.0.now line.0.now) lines) && are_apart lines

-- what fields give: whether there is one, and their values, of one sort
pub record GatheredFields : Type 0 where
  pub given : Bool
  pub references : List ℤ
  pub numbers : List ℤ
  pub truths : List Bool
  pub expressions : List LinearExpr

-- of no fields
abbrev pub nothing : GatheredFields
nothing = record { given = false; references = []; numbers = []; truths = []; expressions = [] }

-- of fields, and of further ones behind them
abbrev pub joined : GatheredFields → GatheredFields → GatheredFields
joined a b = record {
  given = a.given || b.given;
  references = a.references ++ b.references;
  numbers = a.numbers ++ b.numbers;
  truths = a.truths ++ b.truths;
  expressions = a.expressions ++ b.expressions;
}

-- of one field with these values
abbrev pub found_in : Written → Contents → Values → GatheredFields
found_in w References vs = record {
  given = true;
  references = value_numbers w vs;
  numbers = [];
  truths = [];
  expressions = [];
}
found_in w Numbers vs = record {
  given = true;
  references = [];
  numbers = value_numbers w vs;
  truths = [];
  expressions = [];
}
found_in w Truths vs = record {
  given = true;
  references = [];
  numbers = [];
  truths = value_truths w vs;
  expressions = [];
}
found_in w Expressions vs = record {
  given = true;
  references = [];
  numbers = [];
  truths = [];
  expressions = map (read_expression w)
      (value_messages vs);
}

-- of all fields of a name
abbrev pub found_of : Written → Contents → List ℕ → Tree → GatheredFields
found_of w References name tree = record {
  given = gives w name tree;
  references = numbers w name tree;
  numbers = [];
  truths = [];
  expressions = [];
}
found_of w Numbers name tree = record {
  given = gives w name tree;
  references = [];
  numbers = numbers w name tree;
  truths = [];
  expressions = [];
}
found_of w Truths name tree = record {
  given = gives w name tree;
  references = [];
  numbers = [];
  truths = truths w name tree;
  expressions = [];
}
found_of w Expressions name tree = record {
  given = gives w name tree;
  references = [];
  numbers = [];
  truths = [];
  expressions = expressions w name tree;
}

-- of all fields of a line
abbrev pub found : Written → Tree → Line → GatheredFields
found w tree line = found_of w (contents_of line.1) line.0.now tree

-- what was read so far of a line's fields
abbrev pub held : Slot → GatheredFields
held slot = record {
  given = slot.given;
  references = slot.references.items;
  numbers = slot.numbers.items;
  truths = slot.truths.items;
  expressions = slot.expressions.items;
}

abbrev pub lines_of : List Slot → List Line
lines_of slots = map (λ (slot : Slot). slot.line) slots

-- what was read so far, and what further fields give
abbrev pub found_from : Written → Tree → Slot → GatheredFields
found_from w rest slot = joined (held slot) (found w rest slot.line)

abbrev pub all_from : Written → List Slot → Tree → List GatheredFields
all_from w slots rest = map (found_from w rest) slots

abbrev pub marks : List Slot → List (List ℕ × Bool)
marks slots = map (λ (slot : Slot). (slot.line.0.now, slot.given)) slots

-- the fields and the form that were read are those of the fields with these names
pub record IsGathered (m : Message) (parts : Gathered) (before : List (List ℕ)) : Type 0 where
  pub marked : AreGivenSlots (marks parts.slots.items) before
  pub forms : (form : Form) → has_other_form m form before ≡ is_other parts.form form

-- the fields of the other form were read
abbrev pub is_mixed : Option Form → Option Form → Bool
is_mixed given None = false
is_mixed given (Some form) = is_other given form

-- what is wrong with a further field, by whether one of its name and one of the other form was read
abbrev pub again_fault : Bool → Bool → Option FaultName
again_fault again mixed = if again then Some Repeated else (if mixed then Some MixedForms else None)

-- a list where one value is taken
abbrev pub many_fault : Written → Bool → Field → Option (FaultName × ℕ)
many_fault w one f = if one then alone_fault w f.name (is_alone f.list (values_of f.items)) else None

-- what is wrong with a further field of a line
abbrev pub line_fault : Written → Takes → Bool → Option Form → Field → Option (FaultName × ℕ)
line_fault w takes given form f =
    option_or (refused_at f.name (again_fault (takes_one takes && given) (is_mixed form (form_taken takes))))
    (option_or (many_fault w (takes_one takes) f)
    (values_fault w (Some (content_taken (contents_of takes))) (values_of f.items)))

-- the form that was read behind a field of a line
abbrev pub form_behind : Option Form → Takes → Option Form
form_behind given (Many contents) = given
form_behind given (One contents) = given
form_behind given (ManyOf form contents) = Some form
form_behind given (OneOf form contents) = Some form

-- the place of the first line of a name, where the first of these has place k
abbrev pub line_place : ℕ → List Slot → List ℕ → Option ℕ
line_place k [] name = None
line_place k (slot ∷ slots) name = if bytes_eq name slot.line.0.now then Some k else line_place (k + 1) slots name

-- what the slots give that are left
abbrev pub left : IntoIter Slot Global → List GatheredFields
left slots = map held (into_iter_items slots)

abbrev pub behind_first : List GatheredFields → List GatheredFields
behind_first [] = []
behind_first (f ∷ fs) = fs

-- what the first of these gives, and nothing where there is none
abbrev pub next : List GatheredFields → GatheredFields
next fs = first_or nothing fs

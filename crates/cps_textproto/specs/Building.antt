-- What each symbol adds to the tree.
use Rattle.std.specs.Prelude.{◌≡◌, ℕ, suc, Bool, true, false, if◌then◌else◌, List, [], ◌∷◌, Some, None, Result, Ok, Err}
use Rattle.cps_textproto.specs.declared.symbol.Symbol.{Symbol}
use Rattle.cps_textproto.specs.declared.symbol.Symbol.TheVariants.{Name, Number, Text, Open, Close, OpenList, CloseList, Comma, Minus}
use Rattle.cps_textproto.specs.declared.machine.Mode.{Mode}
use Rattle.cps_textproto.specs.declared.machine.Mode.TheVariants.{Between, After, Texted, Named, Valued, Signed, ListFirst, ListNext, ListItem, ListTexted, MessagesFirst, MessagesNext, MessagesItem}
use Rattle.cps_textproto.specs.declared.machine.OpenMessage.{OpenMessage}
use Rattle.cps_textproto.specs.declared.builder.Action.{Action}
use Rattle.cps_textproto.specs.declared.builder.Action.TheVariants as actions
use Rattle.cps_textproto.specs.declared.builder.Opened.{Opened}
use Rattle.cps_textproto.specs.declared.builder.Builder.{Builder}
use Rattle.cps_textproto.specs.Trees.{Tree, Values, no_fields, field, no_values, scalar_value, message_value, field_list, range_values, nested_values, then_fields, then_values, without_last}
use Rattle.cps_textproto.specs.Machine.{State, open_message_of, step, from_next, stops, start}
use Rattle.cps_textproto.specs.declared.reading.TextError.{TextError}
use Rattle.cps_textproto.specs.declared.reading.TextError.TheVariants.{NotADocument, OutOfMemory}

-- what a symbol of a list adds, by what was before it
abbrev pub list_action : Mode → Symbol → Action
list_action ListFirst Name = actions.First
list_action ListFirst Number = actions.First
list_action ListFirst Text = actions.First
list_action ListFirst Minus = actions.First
list_action ListFirst (Open b) = actions.Open (open_message_of b true)
list_action ListFirst CloseList = actions.End
list_action ListFirst _ = actions.Nothing
list_action ListNext Name = actions.First
list_action ListNext Number = actions.First
list_action ListNext Text = actions.First
list_action ListNext Minus = actions.First
list_action ListNext _ = actions.Nothing
list_action ListItem Comma = actions.Item
list_action ListItem CloseList = actions.LastItem
list_action ListItem _ = actions.Nothing
list_action ListTexted Comma = actions.Item
list_action ListTexted CloseList = actions.LastItem
list_action ListTexted _ = actions.Nothing
list_action MessagesFirst (Open b) = actions.Open (open_message_of b true)
list_action MessagesFirst CloseList = actions.End
list_action MessagesFirst _ = actions.Nothing
list_action MessagesNext (Open b) = actions.Open (open_message_of b true)
list_action MessagesNext _ = actions.Nothing
list_action MessagesItem CloseList = actions.End
list_action MessagesItem _ = actions.Nothing
list_action _ _ = actions.Nothing

-- what a symbol adds, by what was before it
abbrev pub action_of : Mode → Symbol → Action
action_of Between Name = actions.Name
action_of Between (Close b) = actions.Close
action_of Between _ = actions.Nothing
action_of After Name = actions.Name
action_of After (Close b) = actions.Close
action_of After _ = actions.Nothing
action_of Texted Text = actions.MoreText
action_of Texted Name = actions.Name
action_of Texted (Close b) = actions.Close
action_of Texted _ = actions.Nothing
action_of Named (Open b) = actions.Open (open_message_of b false)
action_of Named OpenList = actions.Begin
action_of Named _ = actions.Nothing
action_of Valued Name = actions.Scalar
action_of Valued Number = actions.Scalar
action_of Valued Text = actions.Scalar
action_of Valued Minus = actions.First
action_of Valued (Open b) = actions.Open (open_message_of b false)
action_of Valued OpenList = actions.Begin
action_of Valued _ = actions.Nothing
action_of Signed Name = actions.SignedScalar
action_of Signed Number = actions.SignedScalar
action_of Signed _ = actions.Nothing
action_of mode symbol = list_action mode symbol

-- an open message: the fields before it and the messages of its list before it, its field's name, the token that opened
-- it, and what the machine sees of it
pub record Outer : Type 0 where
  pub before : Tree
  pub others : Values
  pub name : ℕ
  pub first : ℕ
  pub form : OpenMessage

-- the innermost message's fields, the open messages from the inside out, and what is known of a field that is not
-- finished: its name, the token that its scalar begins with, the scalars and the messages of its list
pub record Build : Type 0 where
  pub fields : Tree
  pub outer : List Outer
  pub name : ℕ
  pub first : ℕ
  pub scalars : Values
  pub messages : Values

-- one more field
abbrev pub with_field : Build → Bool → Values → Build
with_field b list values = record b { fields = then_fields b.fields (field b.name list values no_fields) }

-- one more scalar of the list, and its end
abbrev pub with_scalar : Build → ℕ → Values
with_scalar b end = then_values b.scalars (scalar_value b.first end no_values)

-- the fields, and the messages of the list, behind a message with these fields

abbrev pub fields_behind : Outer → Tree → Tree
fields_behind o inner =
    if o.form.listed then o.before
    else then_fields o.before (field o.name false (message_value o.first inner no_values) no_fields)

abbrev pub messages_behind : Outer → Tree → Values
messages_behind o inner = if o.form.listed then then_values o.others
    (message_value o.first inner no_values) else o.others

-- the innermost message is a field of the next, or the last of its list
abbrev pub closed : List Outer → Build → Build
closed [] b = b
closed (o ∷ os) b = record {
  fields = fields_behind o b.fields;
  outer = os;
  name = o.name;
  first = b.first;
  scalars = b.scalars;
  messages = messages_behind o b.fields;
}

abbrev pub opened : OpenMessage → ℕ → Build → Build
opened f k b = record {
  fields = no_fields;
  outer = record { before = b.fields; others = b.messages; name = b.name; first = k; form = f } ∷ b.outer;
  name = b.name;
  first = b.first;
  scalars = b.scalars;
  messages = no_values;
}

-- what the token number k makes of it
abbrev pub act : Action → ℕ → Build → Build
act actions.Name k b = record b { name = k }
act actions.First k b = record b { first = k }
act actions.Scalar k b = record (with_field b false (scalar_value k (suc k) no_values)) { first = k }
act actions.SignedScalar k b = with_field b false (scalar_value b.first (suc k) no_values)
act actions.MoreText k b = with_field
    (record b { fields = without_last b.fields }) false (scalar_value b.first (suc k) no_values)
act actions.Begin k b = record b { scalars = no_values; messages = no_values }
act actions.Item k b = record b { scalars = with_scalar b k }
act actions.LastItem k b = record (with_field b true (with_scalar b k)) { scalars = no_values }
act actions.End k b = record (with_field b true b.messages) { messages = no_values }
act (actions.Open f) k b = opened f k b
act actions.Close k b = closed b.outer b
act actions.Nothing k b = b

abbrev pub empty_build : Build
empty_build = record { fields = no_fields; outer = []; name = 0; first = 0; scalars = no_values; messages = no_values }

-- what the symbols from number k on make of it
abbrev pub built : State → Build → ℕ → List Symbol → Build
built state b k [] = b
built state b k (x ∷ xs) = from_next (step state x) b (λ next. built next (act (action_of state.mode x) k b) (suc k) xs)

-- the open messages as the machine sees them

abbrev pub forms : List Outer → List OpenMessage
forms [] = []
forms (o ∷ os) = o.form ∷ forms os

abbrev pub stack_of : Build → List OpenMessage
stack_of b = forms b.outer

-- the same as the code keeps it

abbrev pub outer_of : Opened → Outer
outer_of o = record {
  before = field_list o.fields.items;
  others = nested_values o.messages.items;
  name = o.name;
  first = o.first;
  form = o.form;
}

-- a stack with its top at the end, as a list with the top in front
abbrev pub outer_onto : List Opened → List Outer → List Outer
outer_onto [] outer = outer
outer_onto (o ∷ os) outer = outer_onto os (outer_of o ∷ outer)

abbrev pub build_of : Builder → Build
build_of b = record {
  fields = field_list b.fields.items;
  outer = outer_onto b.opened.items [];
  name = b.name;
  first = b.first;
  scalars = range_values b.scalars.items;
  messages = nested_values b.messages.items;
}

-- how the loop over the tokens ends
abbrev pub Ends : List Symbol → Result Builder TextError → Type 0
Ends s (Ok b) = (stops start 0 s ≡ None) × (build_of b ≡ built start empty_build 0 s)
Ends s (Err (NotADocument token)) = stops start 0 s ≡ Some token
Ends s (Err OutOfMemory) = Unit {0}

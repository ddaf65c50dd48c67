-- The tree of a document, without where it lies in memory.
use Rattle.std.specs.Prelude.{ℕ, ◌<◌, ◌≤◌, Bool, List, [], ◌∷◌}
use Rattle.cps_textproto.specs.declared.tree.Node.{Node, Node', Row_of-Field, end_of-Field, more_of-Field}
use Rattle.cps_textproto.specs.declared.tree.Field.{Field}
use Rattle.cps_textproto.specs.declared.tree.Items.{Items, Row_of-Nested, end_of-Nested, more_of-Nested}
use Rattle.cps_textproto.specs.declared.tree.Items.TheVariants.{One, Scalars, Messages'}
use Rattle.cps_textproto.specs.declared.tree.Item.{Item}
use Rattle.cps_textproto.specs.declared.tree.Item.TheVariants.{Scalar, Message}
use Rattle.cps_textproto.specs.declared.tree.TokenRange.{TokenRange}
use Rattle.cps_textproto.specs.declared.tree.Nested.{Nested, Nested'}

mutual
  -- fields: the name's token, whether a list was written, the values
  pub data Tree : Type 0 where
    no_fields : Tree
    field : ℕ → Bool → Values → Tree → Tree

  -- values: a scalar's first token and the one behind it, or a message's first token and its fields
  pub data Values : Type 0 where
    no_values : Values
    scalar_value : ℕ → ℕ → Values → Values
    message_value : ℕ → Tree → Values → Values

-- each number in it is that of one of so many tokens
abbrev mutual
  pub NumbersBelow : ℕ → Tree → Type 0
  NumbersBelow count no_fields = Unit {0}
  NumbersBelow count (field name list values rest) = (name < count) × ValuesBelow count values × NumbersBelow count rest

  pub ValuesBelow : ℕ → Values → Type 0
  ValuesBelow count no_values = Unit {0}
  ValuesBelow count (scalar_value first end rest) = (first < end) × (end ≤ count) × ValuesBelow count rest
  ValuesBelow count (message_value first tree rest) = (first < count) × NumbersBelow count tree × ValuesBelow count rest

-- the tree of a node, in its memory

abbrev pub range_values : List TokenRange → Values
range_values [] = no_values
range_values (s ∷ ss) = scalar_value s.first s.end (range_values ss)

abbrev mutual
  pub tree_of : Node → Tree
  tree_of (Node' shape row) = row_tree row

  pub row_tree : {m : _} → Row_of-Field m → Tree
  row_tree end_of-Field = no_fields
  row_tree (more_of-Field name list items rest) = field name list (values_of items) (row_tree rest)

  pub values_of : Items → Values
  values_of (One item) = item_value item
  values_of (Scalars token_ranges) = range_values token_ranges.items
  values_of (Messages' shape row) = row_values row

  pub row_values : {m : _} → Row_of-Nested m → Values
  row_values end_of-Nested = no_values
  row_values (more_of-Nested message rest) = nested_value message (row_values rest)

  -- the value of a message of a list, in front of others
  pub nested_value : Nested → Values → Values
  nested_value (Nested' first node) rest = message_value first (tree_of node) rest

  pub item_value : Item → Values
  item_value (Scalar first end) = scalar_value first end no_values
  item_value (Message first node) = message_value first (tree_of node) no_values

-- the same of a list of fields
abbrev pub field_list : List Field → Tree
field_list [] = no_fields
field_list (f ∷ fs) = field f.name f.list (values_of f.items) (field_list fs)

-- and of a list of messages
abbrev pub nested_values : List Nested → Values
nested_values [] = no_values
nested_values (m ∷ ms) = nested_value m (nested_values ms)

abbrev pub then_fields : Tree → Tree → Tree
then_fields no_fields more = more
then_fields (field name list values rest) more = field name list values (then_fields rest more)

abbrev pub then_values : Values → Values → Values
then_values no_values more = more
then_values (scalar_value first end rest) more = scalar_value first end (then_values rest more)
then_values (message_value first tree rest) more = message_value first tree (then_values rest more)

-- the fields but the last
abbrev pub before_last : ℕ → Bool → Values → Tree → Tree
before_last name list v no_fields = no_fields
before_last name list v (field n l w rest) = field name list v (before_last n l w rest)

abbrev pub without_last : Tree → Tree
without_last no_fields = no_fields
without_last (field name list values rest) = before_last name list values rest

-- A field's one value, and its messages.
use Rattle.std.specs.Prelude.{ℕ, List, [], ◌∷◌, Option, None}
use Rattle.std.specs.Option.{option_or}
use Rattle.cps_textproto.specs.declared.tree.Nested.{Nested, Nested'}
use Rattle.cps_textproto.specs.Trees.{Tree, Values, no_values, scalar_value, message_value, tree_of}
use Rattle.cps_model.specs.declared.fault.FaultName.{FaultName}
use Rattle.cps_schema.specs.declared.single.Value.{Value}
use Rattle.cps_schema.specs.declared.single.Value.TheVariants.{Scalar, Message}
use Rattle.cps_schema.specs.declared.single.Messages.{Messages}
use Rattle.cps_schema.specs.declared.single.Messages.TheVariants.{One, List as Listed}
use Rattle.cps_schema.specs.Written.{Written}
use Rattle.cps_schema.specs.Tables as tables
use Rattle.cps_schema.specs.Faults.{fields_fault}

abbrev pub value_of : Value → Values
value_of (Scalar token_range) = scalar_value token_range.first token_range.end no_values
value_of (Message first node) = message_value first (tree_of node.now) no_values

-- the fields of a message of a list
abbrev pub nested_tree : Nested → Tree
nested_tree (Nested' first node) = tree_of node

abbrev pub nested_trees : List Nested → List Tree
nested_trees [] = []
nested_trees (nested ∷ list) = nested_tree nested ∷ nested_trees list

abbrev pub trees_of : Messages → List Tree
trees_of (One node) = tree_of node.now ∷ []
trees_of (Listed list) = nested_trees list.now

-- the first fault of messages
abbrev pub trees_fault : Written → tables.Message → List Tree → Option (FaultName × ℕ)
trees_fault w m [] = None
trees_fault w m (tree ∷ trees) = option_or (fields_fault w m [] tree) (trees_fault w m trees)

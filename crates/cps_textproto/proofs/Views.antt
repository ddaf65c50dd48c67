-- A node's tree is that of its fields, and the values of a list of messages are those of its messages.
use Rattle.std.proofs.Common.{◌≡◌, List, Vec, Global, refl, sym, ap, ◌∙◌}
use mathlib.Core.Former.{Count}
use Rattle.cps_textproto.specs.declared.tree.Field.{Field}
use Rattle.cps_textproto.specs.declared.tree.Nested.{Nested, Nested', out-Nested}
use Rattle.cps_textproto.specs.declared.tree.Items.{Items, Row_of-Nested, end_of-Nested, more_of-Nested, items-the_row-Nested, items_hidden-the_row-Nested-0}
use Rattle.cps_textproto.specs.declared.tree.Items.TheVariants.{Messages, Messages'}
use Rattle.cps_textproto.specs.declared.tree.Node.{Node, Node', out-Node, items-the_row-Field, outs-Node', items_shown-the_row-Field-1, Row_of-Field, end_of-Field, more_of-Field}
use Rattle.cps_textproto.specs.Trees.{tree_of, field_list, row_tree, row_values, values_of, nested_value, nested_values, field, Values, message_value}

row_tree_list : (n : _) (row : Row_of-Field n) → row_tree row ≡ field_list (items-the_row-Field n row)
row_tree_list n end_of-Field = refl
row_tree_list n (more_of-Field name list items rest) = ap (field name list (values_of items)) (row_tree_list _ rest)

pub tree_of_node : (n : Node) → tree_of n ≡ field_list (out-Node n).fields.items
tree_of_node (Node' shape row) =
    row_tree_list _ row ∙ ap field_list (sym (ap (λ v. v.fields.items) (outs-Node' shape row) ∙ items_shown-the_row-Field-1 shape row))

-- the same, where the fields are known by another name
pub tree_of_fields : (n : Node) (fields : List Field) → fields ≡ (out-Node n).fields.items → tree_of n ≡ field_list fields
tree_of_fields n fields same = tree_of_node n ∙ ap field_list (sym same)

row_values_list : (n : _) (row : Row_of-Nested n) → row_values row ≡ nested_values (items-the_row-Nested n row)
row_values_list n end_of-Nested = refl
row_values_list n (more_of-Nested message rest) = ap (nested_value message) (row_values_list _ rest)

abbrev row_of : Items → (n : Count) × Row_of-Nested n
row_of (Messages' shape row) = (_, row)
row_of _ = (_, end_of-Nested)

pub values_of_messages : (messages : Vec Nested Global) → values_of (Messages messages) ≡ nested_values messages.items
values_of_messages messages =
    let row = row_of (Messages messages) in
    row_values_list row.0 row.1 ∙ ap nested_values (items_hidden-the_row-Nested-0 messages)

-- a message of a list by its parts
pub nested_parts : (m : Nested) (rest : Values) → nested_value m rest ≡ message_value (out-Nested m).first (tree_of (out-Nested m).node) rest
unfolding out-Nested denote.Hole.Carrier.out
nested_parts (Nested' first node) rest = refl

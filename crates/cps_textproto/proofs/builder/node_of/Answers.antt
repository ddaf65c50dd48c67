use Rattle.std.proofs.Common.{ap, ◌∙◌}
use Rattle.cps_textproto.specs.declared.tree.Node.{roll-Node, out-roll-Node}
use Rattle.cps_textproto.specs.Trees.{field_list}
use Rattle.cps_textproto.proofs.Views.{tree_of_node}
use Rattle.cps_textproto.proofs.builder.node_of.Goals as goal

pub returns : goal.returns
returns c =
    tree_of_node (roll-Node (record { fields = c.args.fields }))
    ∙ ap field_list (ap (λ v. v.fields.items) (out-roll-Node (record { fields = c.args.fields })))

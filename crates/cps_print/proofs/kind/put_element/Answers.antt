-- The lines of its fields.
use Rattle.std.proofs.Common.{refl}
use Rattle.cps_print.specs.Expressions.{printed_expression}
use Rattle.cps_print.proofs.Lines.{on_ok, none_left, field_then, repeated_then, message_then}
use Rattle.cps_print.proofs.kind.put_element.Goals as goal

pub returns : goal.returns
returns c =
    let fields =
    field_then 2 _ _ _ _ _ (c.in_ok-put_expression_field.ensures {u = tt})
    (field_then 2 _ _ _ _ _ (c.in_ok-put_expression_field-2.ensures {u = tt})
    (repeated_then 2 _ printed_expression _ _ _ _ _ _ refl (c.in_ok-put_all.ensures {u = tt}) (none_left 2 _))) in
    on_ok c.close_message.result (message_then 1 _ _ _ _ _ _ (c.in_ok-open_message.ensures {u = tt}) fields) c.close_message.ensures

-- The lines of its fields.
use Rattle.std.proofs.Common.{refl}
use Rattle.cps_print.proofs.Lines.{on_ok, none_left, word_then, repeated_then, message_then}
use Rattle.cps_print.specs.Expressions.{printed_expression}
use Rattle.cps_print.proofs.model.put_strategy.Goals as goal

pub returns : goal.returns
returns c =
    let fields =
    repeated_then 1 _ printed_expression _ _ _ _ _ _ refl (c.in_ok-put_all.ensures {u = tt})
    (word_then 1 _ _ _ _ _ _ _ c.choose_name.ensures (c.in_ok-put_word_field.ensures {u = tt})
    (word_then 1 _ _ _ _ _ _ _ c.select_name.ensures (c.in_ok-put_word_field-2.ensures {u = tt}) (none_left 1 _))) in
    on_ok c.close_message.result (message_then 0 _ _ _ _ _ _ (c.in_ok-open_message.ensures {u = tt}) fields) c.close_message.ensures

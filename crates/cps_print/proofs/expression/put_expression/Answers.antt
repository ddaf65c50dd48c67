-- The lines of its fields, one level further in.
use Rattle.std.proofs.Common.{◌≡◌, ◌+◌, to_z, of_z, w64, FitsSigned, add-one, rules}
use Rattle.std.proofs.lemmas.Int.{to_z-of_z}
use Rattle.cps_print.proofs.Lines.{on_ok, none_left, list_then, number_then, message_then}
use Rattle.cps_print.proofs.expression.put_expression.Goals as goal

pub returns : goal.returns
returns c =
    let level = c.args.level in
    let offset_fits : FitsSigned w64 c.args.expression.now.offset = search rules in
    let offset : to_z w64 (of_z w64 c.args.expression.now.offset) ≡ c.args.expression.now.offset = to_z-of_z w64 _ offset_fits in
    let fields =
    list_then (level + 1) _ _ _ _ _ _ _ c.as_slice.ensures (c.in_ok-put_list_field.ensures {u = tt})
    (list_then (level + 1) _ _ _ _ _ _ _ c.as_slice-2.ensures (c.in_ok-put_list_field-2.ensures {u = tt})
    (number_then (level + 1) _ _ _ _ _ _ _ offset (c.in_ok-put_number_field.ensures {u = tt}) (none_left (level + 1) _))) in
    on_ok c.close_message.result (message_then level _ _ _ _ _ _ (c.in_ok-open_message.ensures {u = tt}) (rw add-one at fields)) c.close_message.ensures

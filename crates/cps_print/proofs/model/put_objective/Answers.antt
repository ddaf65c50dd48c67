-- The lines of its fields.
use Rattle.std.proofs.Common.{◌≡◌, to_z, of_z, w64, FitsSigned, rules}
use Rattle.std.proofs.lemmas.Int.{to_z-of_z}
use Rattle.cps_print.proofs.Lines.{on_ok, none_left, number_then, scaling_then, list_then, message_then}
use Rattle.cps_print.proofs.model.put_objective.Goals as goal

pub returns : goal.returns
returns c =
    let offset_fits : FitsSigned w64 c.args.objective.now.offset = search rules in
    let scaling_fits : FitsSigned w64 c.args.objective.now.scaling = search rules in
    let offset : to_z w64 (of_z w64 c.args.objective.now.offset) ≡ c.args.objective.now.offset = to_z-of_z w64 _ offset_fits in
    let scaling : to_z w64 (of_z w64 c.args.objective.now.scaling) ≡ c.args.objective.now.scaling = to_z-of_z w64 _ scaling_fits in
    let fields =
    list_then 1 _ _ _ _ _ _ _ c.as_slice.ensures (c.in_ok-put_list_field.ensures {u = tt})
    (list_then 1 _ _ _ _ _ _ _ c.as_slice-2.ensures (c.in_ok-put_list_field-2.ensures {u = tt})
    (number_then 1 _ _ _ _ _ _ _ offset (c.in_ok-put_number_field.ensures {u = tt})
    (scaling_then 1 _ _ _ _ _ _ scaling (c.in_ok-put_scaling.ensures {u = tt})
    (list_then 1 _ _ _ _ _ _ _ c.as_slice-3.ensures (c.in_ok-put_list_field-3.ensures {u = tt}) (none_left 1 _))))) in
    on_ok c.close_message.result (message_then 0 _ _ _ _ _ _ (c.in_ok-open_message.ensures {u = tt}) fields) c.close_message.ensures

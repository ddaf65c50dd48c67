-- The lines of its fields.
use Rattle.std.proofs.Common.{◌≡◌, to_z, of_z, w64, FitsSigned, refl, rules}
use Rattle.std.proofs.lemmas.Int.{to_z-of_z}
use Rattle.cps_print.specs.Expressions.{printed_expression}
use Rattle.cps_print.proofs.Lines.{on_ok, none_left, list_then, number_then, repeated_then, message_then}
use Rattle.cps_print.proofs.kind.put_automaton.Goals as goal

pub returns : goal.returns
returns c =
    let start_fits : FitsSigned w64 c.args.start = search rules in
    let start : to_z w64 (of_z w64 c.args.start) ≡ c.args.start = to_z-of_z w64 _ start_fits in
    let fields =
    number_then 2 _ _ _ _ _ _ _ start (c.in_ok-put_number_field.ensures {u = tt})
    (list_then 2 _ _ _ _ _ _ _ refl (c.in_ok-put_list_field.ensures {u = tt})
    (list_then 2 _ _ _ _ _ _ _ refl (c.in_ok-put_list_field-2.ensures {u = tt})
    (list_then 2 _ _ _ _ _ _ _ refl (c.in_ok-put_list_field-3.ensures {u = tt})
    (list_then 2 _ _ _ _ _ _ _ refl (c.in_ok-put_list_field-4.ensures {u = tt})
    (repeated_then 2 _ printed_expression _ _ _ _ _ _ refl (c.in_ok-put_all.ensures {u = tt}) (none_left 2 _)))))) in
    on_ok c.close_message.result (message_then 1 _ _ _ _ _ _ (c.in_ok-open_message.ensures {u = tt}) fields) c.close_message.ensures

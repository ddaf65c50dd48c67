-- The lines of its fields, which are read back.
use Rattle.std.proofs.Common.{◌≡◌, ℕ, List, ◌++◌, string_bytes, ap, subst, sym, ◌∙◌}
use Rattle.cps_print.specs.Layout.{text_of}
use Rattle.cps_print.specs.Models.{printed_variable, printed_constraint, printed_strategy, printed_model, model_text}
use Rattle.cps_print.specs.ReadBack.{IsReadWith}
use Rattle.cps_print.proofs.Lines.{none_left, field_then, text_then, list_then, repeated_then}
use Rattle.cps_print.proofs.RoundTrip.{round_trip}
use Rattle.cps_print.proofs.model.model_text.Goals as goal

pub returns : goal.returns
returns c =
    let fields =
    text_then 0 _ _ _ _ _ _ _ c.as_str.ensures (c.in_ok-put_text_field.ensures {u = tt})
    (repeated_then 0 _ printed_variable _ _ _ _ _ _ c.as_slice.ensures (c.in_ok-put_variables.ensures {u = tt})
    (repeated_then 0 _ printed_constraint _ _ _ _ _ _ c.as_slice-2.ensures (c.in_ok-put_constraints.ensures {u = tt})
    (field_then 0 _ _ _ _ _ (c.in_ok-put_objective_field.ensures {u = tt})
    (repeated_then 0 _ printed_strategy _ _ _ _ _ _ c.as_slice-3.ensures (c.in_ok-put_strategies.ensures {u = tt})
    (field_then 0 _ _ _ _ _ (c.in_ok-put_hint_field.ensures {u = tt})
    (list_then 0 _ _ _ _ _ _ _ c.as_slice-4.ensures (c.in_ok-put_list_field.ensures {u = tt}) (none_left 0 _))))))) in
    let m = c.args.model.now in
    let text : string_bytes c.put_list_field.new.text ≡ model_text m = fields ∙ ap (λ s. s ++ text_of 0 (printed_model m)) c.new-text.ensures.bytes in
    record { text = text; back = λ closed bytes r. subst (λ (xs : List ℕ). IsReadWith closed xs m) (sym text) (round_trip closed bytes m r) }

-- The fields of an expression, and when there are none.
use Rattle.std.specs.Prelude.{ℕ, zero, Bool, true, false, if◌then◌else◌, ℤ, pos, List, [], ◌∷◌, codes}
use Rattle.cps_model.specs.declared.model.LinearExpr.{LinearExpr}
use Rattle.cps_print.specs.Layout.{PrintedMessage, empty}
use Rattle.cps_print.specs.Fields.{fields_of, number_field, list_field, message_field}

abbrev pub printed_expression : LinearExpr → PrintedMessage
printed_expression e =
    fields_of (list_field (codes "vars") e.vars ∷ list_field (codes "coeffs") e.coeffs ∷ number_field
    (codes "offset") e.offset ∷ [])

-- no terms, and the offset is 0
abbrev pub is_zero_sum : List ℤ → List ℤ → ℤ → Bool
is_zero_sum [] [] (pos zero) = true
is_zero_sum vars coeffs offset = false

abbrev pub is_empty_expression : LinearExpr → Bool
is_empty_expression e = is_zero_sum e.vars e.coeffs e.offset

-- a single expression, left out where it is empty
unfoldable pub expression_field : List ℕ → LinearExpr → PrintedMessage
expression_field name e = if is_empty_expression e then empty else message_field name (printed_expression e)

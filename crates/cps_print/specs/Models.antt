-- The fields with which each part of a model is printed.
use Rattle.std.specs.Prelude.{ℕ, zero, suc, ℤ, pos, negsuc, List, [], ◌∷◌, codes, Option, Some, None}
use Rattle.cps_model.specs.declared.model.CpModel.{CpModel}
use Rattle.cps_model.specs.declared.model.Variable.{Variable}
use Rattle.cps_model.specs.declared.model.Objective.{Objective}
use Rattle.cps_model.specs.declared.constraint.Constraint.{Constraint}
use Rattle.cps_model.specs.declared.steering.Strategy.{Strategy}
use Rattle.cps_model.specs.declared.steering.Hint.{Hint}
use Rattle.cps_model.specs.declared.steering.Choose.{Choose}
use Rattle.cps_model.specs.declared.steering.Choose.TheVariants.{First, LowestMin, HighestMax, MinDomainSize, MaxDomainSize}
use Rattle.cps_model.specs.declared.steering.Select.{Select}
use Rattle.cps_model.specs.declared.steering.Select.TheVariants.{MinValue, MaxValue, LowerHalf, UpperHalf, MedianValue}
use Rattle.cps_print.specs.Layout.{PrintedMessage, empty, number, text_of}
use Rattle.cps_print.specs.Fields.{fields_of, number_field, list_field, word_field, text_field, message_field, repeated_field}
use Rattle.cps_print.specs.Expressions.{printed_expression}
use Rattle.cps_print.specs.Kinds.{kind_field}

abbrev pub printed_variable : Variable → PrintedMessage
printed_variable v = fields_of (text_field (codes "name") v.name ∷ list_field (codes "domain") v.domain ∷ [])

abbrev pub printed_constraint : Constraint → PrintedMessage
printed_constraint c =
    fields_of (text_field (codes "name") c.name ∷ list_field
    (codes "enforcement_literal") c.enforcement ∷ kind_field c.kind ∷ [])

-- the scaling factor is left out where it is 1, too
unfoldable pub scaling_field : ℤ → PrintedMessage
scaling_field (pos zero) = empty
scaling_field (pos (suc zero)) = empty
scaling_field (pos (suc (suc n))) = number (codes "scaling_factor") (pos (suc (suc n))) empty
scaling_field (negsuc n) = number (codes "scaling_factor") (negsuc n) empty

abbrev pub printed_objective : Objective → PrintedMessage
printed_objective o =
    fields_of
    (list_field (codes "vars") o.vars
    ∷ list_field (codes "coeffs") o.coeffs
    ∷ number_field (codes "offset") o.offset
    ∷ scaling_field o.scaling
    ∷ list_field (codes "domain") o.domain
    ∷ [])

abbrev pub objective_field : Option Objective → PrintedMessage
objective_field None = empty
objective_field (Some o) = message_field (codes "objective") (printed_objective o)

-- the member of an enum that has number 0 is left out
abbrev pub choose_name : Choose → List ℕ
choose_name First = []
choose_name LowestMin = codes "CHOOSE_LOWEST_MIN"
choose_name HighestMax = codes "CHOOSE_HIGHEST_MAX"
choose_name MinDomainSize = codes "CHOOSE_MIN_DOMAIN_SIZE"
choose_name MaxDomainSize = codes "CHOOSE_MAX_DOMAIN_SIZE"

abbrev pub select_name : Select → List ℕ
select_name MinValue = []
select_name MaxValue = codes "SELECT_MAX_VALUE"
select_name LowerHalf = codes "SELECT_LOWER_HALF"
select_name UpperHalf = codes "SELECT_UPPER_HALF"
select_name MedianValue = codes "SELECT_MEDIAN_VALUE"

abbrev pub printed_strategy : Strategy → PrintedMessage
printed_strategy s =
    fields_of
    (repeated_field (codes "exprs") printed_expression s.exprs
    ∷ word_field (codes "variable_selection_strategy") (choose_name s.choose)
    ∷ word_field (codes "domain_reduction_strategy") (select_name s.select)
    ∷ [])

abbrev pub printed_hint : Hint → PrintedMessage
printed_hint h = fields_of (list_field (codes "vars") h.vars ∷ list_field (codes "values") h.values ∷ [])

abbrev pub hint_field : Option Hint → PrintedMessage
hint_field None = empty
hint_field (Some h) = message_field (codes "solution_hint") (printed_hint h)

abbrev pub printed_model : CpModel → PrintedMessage
printed_model m =
    fields_of
    (text_field (codes "name") m.name
    ∷ repeated_field (codes "variables") printed_variable m.variables
    ∷ repeated_field (codes "constraints") printed_constraint m.constraints
    ∷ objective_field m.objective
    ∷ repeated_field (codes "search_strategy") printed_strategy m.strategies
    ∷ hint_field m.hint
    ∷ list_field (codes "assumptions") m.assumptions
    ∷ [])

-- the canonical text of a model
abbrev pub model_text : CpModel → List ℕ
model_text m = text_of 0 (printed_model m)

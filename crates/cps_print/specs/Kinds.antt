-- The fields with which each kind of constraint is printed.
use Rattle.std.specs.Prelude.{ℕ, Bool, true, false, ℤ, List, [], ◌∷◌, codes}
use Rattle.cps_model.specs.declared.model.LinearExpr.{LinearExpr}
use Rattle.cps_model.specs.declared.constraint.Kind.{Kind}
use Rattle.cps_model.specs.declared.constraint.Kind.TheVariants.{Empty, BoolOr, BoolAnd, AtMostOne, ExactlyOne, BoolXor, Linear, IntDiv, IntMod, IntProd, LinMax, Element, Table, AllDiff, Circuit, Interval, NoOverlap, Cumulative, Inverse, Automaton, Reservoir, NoOverlap2d}
use Rattle.cps_print.specs.Layout.{PrintedMessage, empty}
use Rattle.cps_print.specs.Fields.{fields_of, number_field, list_field, word_field, message_field, repeated_field}
use Rattle.cps_print.specs.Expressions.{printed_expression, expression_field}

-- expressions, each of which is written
abbrev pub expressions_field : List ℕ → List LinearExpr → PrintedMessage
expressions_field name exprs = repeated_field name printed_expression exprs

-- a flag that is false is left out
abbrev pub flag_name : Bool → List ℕ
flag_name true = codes "true"
flag_name false = []

abbrev pub printed_literals : List ℤ → PrintedMessage
printed_literals literals = fields_of (list_field (codes "literals") literals ∷ [])

abbrev pub printed_linear : List ℤ → List ℤ → List ℤ → PrintedMessage
printed_linear vars coeffs domain =
    fields_of (list_field (codes "vars") vars ∷ list_field (codes "coeffs") coeffs ∷ list_field
    (codes "domain") domain ∷ [])

-- a quotient, a remainder, a product or a greatest value
abbrev pub printed_arithmetic : LinearExpr → List LinearExpr → PrintedMessage
printed_arithmetic target exprs =
    fields_of (expression_field (codes "target") target ∷ expressions_field (codes "exprs") exprs ∷ [])

-- in the newer form, with expressions
abbrev pub printed_element : LinearExpr → LinearExpr → List LinearExpr → PrintedMessage
printed_element index target exprs =
    fields_of
    (expression_field (codes "linear_index") index
    ∷ expression_field (codes "linear_target") target
    ∷ expressions_field (codes "exprs") exprs
    ∷ [])

-- in the newer form, with expressions
abbrev pub printed_table : List LinearExpr → List ℤ → Bool → PrintedMessage
printed_table exprs values negated =
    fields_of
    (expressions_field (codes "exprs") exprs
    ∷ list_field (codes "values") values
    ∷ word_field (codes "negated") (flag_name negated)
    ∷ [])

abbrev pub printed_all_diff : List LinearExpr → PrintedMessage
printed_all_diff exprs = fields_of (expressions_field (codes "exprs") exprs ∷ [])

abbrev pub printed_circuit : List ℤ → List ℤ → List ℤ → PrintedMessage
printed_circuit tails heads literals =
    fields_of
    (list_field (codes "tails") tails
    ∷ list_field (codes "heads") heads
    ∷ list_field (codes "literals") literals
    ∷ [])

abbrev pub printed_interval : LinearExpr → LinearExpr → LinearExpr → PrintedMessage
printed_interval start end size =
    fields_of
    (expression_field (codes "start") start
    ∷ expression_field (codes "end") end
    ∷ expression_field (codes "size") size
    ∷ [])

abbrev pub printed_no_overlap : List ℤ → PrintedMessage
printed_no_overlap intervals = fields_of (list_field (codes "intervals") intervals ∷ [])

abbrev pub printed_cumulative : LinearExpr → List ℤ → List LinearExpr → PrintedMessage
printed_cumulative capacity intervals demands =
    fields_of
    (expression_field (codes "capacity") capacity
    ∷ list_field (codes "intervals") intervals
    ∷ expressions_field (codes "demands") demands
    ∷ [])

abbrev pub printed_inverse : List ℤ → List ℤ → PrintedMessage
printed_inverse direct inverse =
    fields_of (list_field (codes "f_direct") direct ∷ list_field (codes "f_inverse") inverse ∷ [])

-- in the newer form, with expressions
abbrev pub printed_automaton : ℤ → List ℤ → List ℤ → List ℤ → List ℤ → List LinearExpr → PrintedMessage
printed_automaton start finals tails heads labels exprs =
    fields_of
    (number_field (codes "starting_state") start
    ∷ list_field (codes "final_states") finals
    ∷ list_field (codes "transition_tail") tails
    ∷ list_field (codes "transition_head") heads
    ∷ list_field (codes "transition_label") labels
    ∷ expressions_field (codes "exprs") exprs
    ∷ [])

abbrev pub printed_reservoir : ℤ → ℤ → List LinearExpr → List LinearExpr → List ℤ → PrintedMessage
printed_reservoir min max times changes active =
    fields_of
    (number_field (codes "min_level") min
    ∷ number_field (codes "max_level") max
    ∷ expressions_field (codes "time_exprs") times
    ∷ expressions_field (codes "level_changes") changes
    ∷ list_field (codes "active_literals") active
    ∷ [])

abbrev pub printed_no_overlap_2d : List ℤ → List ℤ → PrintedMessage
printed_no_overlap_2d x y = fields_of (list_field (codes "x_intervals") x ∷ list_field (codes "y_intervals") y ∷ [])

-- a kind is a field of its constraint, which is always written
abbrev pub kind_field : Kind → PrintedMessage
kind_field Empty = empty
kind_field (BoolOr literals) = message_field (codes "bool_or") (printed_literals literals)
kind_field (BoolAnd literals) = message_field (codes "bool_and") (printed_literals literals)
kind_field (AtMostOne literals) = message_field (codes "at_most_one") (printed_literals literals)
kind_field (ExactlyOne literals) = message_field (codes "exactly_one") (printed_literals literals)
kind_field (BoolXor literals) = message_field (codes "bool_xor") (printed_literals literals)
kind_field (Linear vars coeffs domain) = message_field (codes "linear") (printed_linear vars coeffs domain)
kind_field (IntDiv target exprs) = message_field (codes "int_div") (printed_arithmetic target exprs)
kind_field (IntMod target exprs) = message_field (codes "int_mod") (printed_arithmetic target exprs)
kind_field (IntProd target exprs) = message_field (codes "int_prod") (printed_arithmetic target exprs)
kind_field (LinMax target exprs) = message_field (codes "lin_max") (printed_arithmetic target exprs)
kind_field (Element index target exprs) = message_field (codes "element") (printed_element index target exprs)
kind_field (Table exprs values negated) = message_field (codes "table") (printed_table exprs values negated)
kind_field (AllDiff exprs) = message_field (codes "all_diff") (printed_all_diff exprs)
kind_field (Circuit tails heads literals) = message_field (codes "circuit") (printed_circuit tails heads literals)
kind_field (Interval start end size) = message_field (codes "interval") (printed_interval start end size)
kind_field (NoOverlap intervals) = message_field (codes "no_overlap") (printed_no_overlap intervals)
kind_field (Cumulative capacity intervals demands) = message_field (codes "cumulative")
    (printed_cumulative capacity intervals demands)
kind_field (Inverse direct inverse) = message_field (codes "inverse") (printed_inverse direct inverse)
kind_field (Automaton start finals tails heads labels exprs) =
    message_field (codes "automaton") (printed_automaton start finals tails heads labels exprs)
kind_field (Reservoir min max times changes active) =
    message_field (codes "reservoir") (printed_reservoir min max times changes active)
kind_field (NoOverlap2d x y) = message_field (codes "no_overlap_2d") (printed_no_overlap_2d x y)

-- The kinds that are read, and the fields that give them.
use Rattle.std.specs.Prelude.{ℕ, List, [], ◌∷◌, Option, codes}
use Rattle.std.specs.List.{find}
use Rattle.std.specs.Str.{bytes_eq}
use Rattle.cps_schema.specs.declared.kind.KindName.{KindName}
use Rattle.cps_schema.specs.declared.kind.KindName.TheVariants.{BoolOr, BoolAnd, AtMostOne, ExactlyOne, BoolXor, IntDiv, IntMod, IntProd, LinMax, Linear, AllDiff, Element, Circuit, Table, Interval, NoOverlap, Cumulative, Automaton, Inverse, Reservoir, NoOverlap2d}
use Rattle.cps_schema.specs.Tables.{Message, literals_message, linear_argument_message, linear_message, all_diff_message, element_message, circuit_message, table_message, interval_message, no_overlap_message, cumulative_message, automaton_message, inverse_message, reservoir_message, no_overlap_2d_message}

abbrev pub kinds_read : List KindName
kinds_read =
    BoolOr
    ∷ BoolAnd
    ∷ AtMostOne
    ∷ ExactlyOne
    ∷ BoolXor
    ∷ IntDiv
    ∷ IntMod
    ∷ IntProd
    ∷ LinMax
    ∷ Linear
    ∷ AllDiff
    ∷ Element
    ∷ Circuit
    ∷ Table
    ∷ Interval
    ∷ NoOverlap
    ∷ Cumulative
    ∷ Automaton
    ∷ Inverse
    ∷ Reservoir
    ∷ NoOverlap2d
    ∷ []

-- the name of the field that gives a kind
abbrev pub field_name : KindName → List ℕ
field_name BoolOr = codes "bool_or"
field_name BoolAnd = codes "bool_and"
field_name AtMostOne = codes "at_most_one"
field_name ExactlyOne = codes "exactly_one"
field_name BoolXor = codes "bool_xor"
field_name IntDiv = codes "int_div"
field_name IntMod = codes "int_mod"
field_name IntProd = codes "int_prod"
field_name LinMax = codes "lin_max"
field_name Linear = codes "linear"
field_name AllDiff = codes "all_diff"
field_name Element = codes "element"
field_name Circuit = codes "circuit"
field_name Table = codes "table"
field_name Interval = codes "interval"
field_name NoOverlap = codes "no_overlap"
field_name Cumulative = codes "cumulative"
field_name Automaton = codes "automaton"
field_name Inverse = codes "inverse"
field_name Reservoir = codes "reservoir"
field_name NoOverlap2d = codes "no_overlap_2d"

-- the message of that field
abbrev pub message_of : KindName → Message
message_of BoolOr = literals_message
message_of BoolAnd = literals_message
message_of AtMostOne = literals_message
message_of ExactlyOne = literals_message
message_of BoolXor = literals_message
message_of IntDiv = linear_argument_message
message_of IntMod = linear_argument_message
message_of IntProd = linear_argument_message
message_of LinMax = linear_argument_message
message_of Linear = linear_message
message_of AllDiff = all_diff_message
message_of Element = element_message
message_of Circuit = circuit_message
message_of Table = table_message
message_of Interval = interval_message
message_of NoOverlap = no_overlap_message
message_of Cumulative = cumulative_message
message_of Automaton = automaton_message
message_of Inverse = inverse_message
message_of Reservoir = reservoir_message
message_of NoOverlap2d = no_overlap_2d_message

-- the kind that a field of this name gives
abbrev pub kind_named : List ℕ → Option KindName
kind_named name = find (λ kind. bytes_eq name (field_name kind)) kinds_read

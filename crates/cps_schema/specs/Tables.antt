-- The messages of a model, and what each of their fields takes.
use Rattle.std.specs.Prelude.{ℕ, Bool, if◌then◌else◌, List, [], ◌∷◌, Option, Some, None, codes}
use Rattle.std.specs.Option.{option_or}
use Rattle.std.specs.List.{list_any}
use Rattle.std.specs.Str.{bytes_eq}
use Rattle.cps_schema.specs.declared.form.Form.{Form}
use Rattle.cps_schema.specs.declared.form.Form.TheVariants.{Older, Newer}
use Rattle.cps_schema.specs.declared.member.Enum.{Enum}
use Rattle.cps_schema.specs.declared.member.Enum.TheVariants.{VariableSelection, DomainReduction}
use Rattle.cps_schema.specs.declared.number.Number.{Number}
use Rattle.cps_schema.specs.declared.number.Number.TheVariants.{Int64, Int32, Exact}

-- the messages whose fields are read
pub data Message : Type 0 where
  model_message : Message
  variable_message : Message
  constraint_message : Message
  literals_message : Message
  linear_message : Message
  linear_argument_message : Message
  all_diff_message : Message
  element_message : Message
  table_message : Message
  circuit_message : Message
  interval_message : Message
  no_overlap_message : Message
  cumulative_message : Message
  automaton_message : Message
  inverse_message : Message
  reservoir_message : Message
  no_overlap_2d_message : Message
  objective_message : Message
  strategy_message : Message
  expression_message : Message
  hint_message : Message

pub data Content : Type 0 where
  number : Number → Content
  truth : Content
  text : Content
  member : Enum → Content
  message : Message → Content

-- what a field takes
pub data Use : Type 0 where
  -- one value, in one field of the name
  single : Content → Use
  -- values, and those of all fields of the name add up in order
  repeated : Content → Use
  -- the same of a field that a table can close
  closable : Content → Use
  -- the same of a field of an older or a newer form, which do not stand in one message
  formed : Form → Content → Use
  -- one value, in one field of the name, of such a form
  formed_single : Form → Content → Use
  -- one message, and a constraint has at most one field of this use
  one_kind : Message → Use
  -- the field is known, and not supported
  unsupported : Use

abbrev pub Table : Type 0
Table = List (List ℕ × Use)

-- the fields that are read
abbrev pub table_of : Message → Table
table_of model_message =
    (codes "name", single text)
    ∷ (codes "variables", repeated (message variable_message))
    ∷ (codes "constraints", repeated (message constraint_message))
    ∷ (codes "objective", single (message objective_message))
    ∷ (codes "search_strategy", repeated (message strategy_message))
    ∷ (codes "solution_hint", single (message hint_message))
    ∷ (codes "assumptions", closable (number Int32))
    ∷ []
table_of variable_message =
    (codes "name", single text)
    ∷ (codes "domain", repeated (number Int64))
    ∷ []
table_of constraint_message =
    (codes "name", single text)
    ∷ (codes "enforcement_literal", repeated (number Int32))
    ∷ (codes "bool_or", one_kind literals_message)
    ∷ (codes "bool_and", one_kind literals_message)
    ∷ (codes "at_most_one", one_kind literals_message)
    ∷ (codes "exactly_one", one_kind literals_message)
    ∷ (codes "bool_xor", one_kind literals_message)
    ∷ (codes "int_div", one_kind linear_argument_message)
    ∷ (codes "int_mod", one_kind linear_argument_message)
    ∷ (codes "int_prod", one_kind linear_argument_message)
    ∷ (codes "lin_max", one_kind linear_argument_message)
    ∷ (codes "linear", one_kind linear_message)
    ∷ (codes "all_diff", one_kind all_diff_message)
    ∷ (codes "element", one_kind element_message)
    ∷ (codes "circuit", one_kind circuit_message)
    ∷ (codes "table", one_kind table_message)
    ∷ (codes "interval", one_kind interval_message)
    ∷ (codes "no_overlap", one_kind no_overlap_message)
    ∷ (codes "cumulative", one_kind cumulative_message)
    ∷ (codes "automaton", one_kind automaton_message)
    ∷ (codes "inverse", one_kind inverse_message)
    ∷ (codes "reservoir", one_kind reservoir_message)
    ∷ (codes "no_overlap_2d", one_kind no_overlap_2d_message)
    ∷ []
table_of literals_message =
    (codes "literals", repeated (number Int32))
    ∷ []
table_of linear_message =
    (codes "vars", repeated (number Int32))
    ∷ (codes "coeffs", repeated (number Int64))
    ∷ (codes "domain", repeated (number Int64))
    ∷ []
table_of linear_argument_message =
    (codes "target", single (message expression_message))
    ∷ (codes "exprs", repeated (message expression_message))
    ∷ []
table_of all_diff_message =
    (codes "exprs", repeated (message expression_message))
    ∷ []
table_of element_message =
    (codes "linear_index", formed_single Newer (message expression_message))
    ∷ (codes "linear_target", formed_single Newer (message expression_message))
    ∷ (codes "exprs", formed Newer (message expression_message))
    ∷ (codes "index", formed_single Older (number Int32))
    ∷ (codes "target", formed_single Older (number Int32))
    ∷ (codes "vars", formed Older (number Int32))
    ∷ []
table_of table_message =
    (codes "exprs", formed Newer (message expression_message))
    ∷ (codes "vars", formed Older (number Int32))
    ∷ (codes "values", repeated (number Int64))
    ∷ (codes "negated", single truth)
    ∷ []
table_of circuit_message =
    (codes "tails", repeated (number Int32))
    ∷ (codes "heads", repeated (number Int32))
    ∷ (codes "literals", repeated (number Int32))
    ∷ []
table_of interval_message =
    (codes "start", single (message expression_message))
    ∷ (codes "end", single (message expression_message))
    ∷ (codes "size", single (message expression_message))
    ∷ []
table_of no_overlap_message =
    (codes "intervals", repeated (number Int32))
    ∷ []
table_of cumulative_message =
    (codes "capacity", single (message expression_message))
    ∷ (codes "intervals", repeated (number Int32))
    ∷ (codes "demands", repeated (message expression_message))
    ∷ []
table_of automaton_message =
    (codes "starting_state", single (number Int64))
    ∷ (codes "final_states", repeated (number Int64))
    ∷ (codes "transition_tail", repeated (number Int64))
    ∷ (codes "transition_head", repeated (number Int64))
    ∷ (codes "transition_label", repeated (number Int64))
    ∷ (codes "exprs", formed Newer (message expression_message))
    ∷ (codes "vars", formed Older (number Int32))
    ∷ []
table_of inverse_message =
    (codes "f_direct", repeated (number Int32))
    ∷ (codes "f_inverse", repeated (number Int32))
    ∷ []
table_of reservoir_message =
    (codes "min_level", single (number Int64))
    ∷ (codes "max_level", single (number Int64))
    ∷ (codes "time_exprs", repeated (message expression_message))
    ∷ (codes "level_changes", repeated (message expression_message))
    ∷ (codes "active_literals", repeated (number Int32))
    ∷ []
table_of no_overlap_2d_message =
    (codes "x_intervals", repeated (number Int32))
    ∷ (codes "y_intervals", repeated (number Int32))
    ∷ []
table_of objective_message =
    (codes "vars", repeated (number Int32))
    ∷ (codes "coeffs", repeated (number Int64))
    ∷ (codes "offset", single (number Exact))
    ∷ (codes "scaling_factor", single (number Exact))
    ∷ (codes "domain", repeated (number Int64))
    ∷ []
table_of strategy_message =
    (codes "exprs", formed Newer (message expression_message))
    ∷ (codes "variables", formed Older (number Int32))
    ∷ (codes "variable_selection_strategy", single (member VariableSelection))
    ∷ (codes "domain_reduction_strategy", single (member DomainReduction))
    ∷ []
table_of expression_message =
    (codes "vars", repeated (number Int32))
    ∷ (codes "coeffs", repeated (number Int64))
    ∷ (codes "offset", single (number Int64))
    ∷ []
table_of hint_message =
    (codes "vars", repeated (number Int32))
    ∷ (codes "values", repeated (number Int64))
    ∷ []

-- the fields that are known, and not supported
abbrev pub unsupported_names : Message → List (List ℕ)
unsupported_names model_message =
    codes "floating_point_objective"
    ∷ codes "symmetry"
    ∷ []
unsupported_names variable_message = []
unsupported_names constraint_message =
    codes "routes"
    ∷ codes "dummy_constraint"
    ∷ []
unsupported_names literals_message = []
unsupported_names linear_message = []
unsupported_names linear_argument_message = []
unsupported_names all_diff_message = []
unsupported_names element_message = []
unsupported_names table_message = []
unsupported_names circuit_message = []
unsupported_names interval_message = []
unsupported_names no_overlap_message = []
unsupported_names cumulative_message = []
unsupported_names automaton_message = []
unsupported_names inverse_message = []
unsupported_names reservoir_message = []
unsupported_names no_overlap_2d_message = []
unsupported_names objective_message =
    codes "scaling_was_exact"
    ∷ codes "integer_before_offset"
    ∷ codes "integer_after_offset"
    ∷ codes "integer_scaling_factor"
    ∷ []
unsupported_names strategy_message = []
unsupported_names expression_message = []
unsupported_names hint_message = []

-- the name is one of these
unfoldable pub is_given : List (List ℕ) → List ℕ → Bool
is_given names name = list_any (bytes_eq name) names

abbrev pub use_in : Table → List ℕ → Option Use
use_in [] name = None
use_in (entry ∷ entries) name = if bytes_eq name entry.0 then Some entry.1 else use_in entries name

-- what the field of this name takes in a message. A name that the message has not is unknown.
unfoldable pub use_of : Message → List ℕ → Option Use
use_of m name =
    option_or (use_in (table_of m) name) (if is_given (unsupported_names m) name then Some unsupported else None)

-- of which sort the values of a field are
abbrev pub content_of : Option Use → Option Content
content_of None = None
content_of (Some (single content)) = Some content
content_of (Some (repeated content)) = Some content
content_of (Some (closable content)) = Some content
content_of (Some (formed form content)) = Some content
content_of (Some (formed_single form content)) = Some content
content_of (Some (one_kind m)) = Some (message m)
content_of (Some unsupported) = None

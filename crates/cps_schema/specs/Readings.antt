-- Which model a document is read as.
use Rattle.std.specs.Prelude.{◌≡◌, ℕ, suc, Bool, false, ◌||◌, if◌then◌else◌, List, [], ◌∷◌, ◌++◌, map, Option, Some, None, Result, Ok, Err, ℤ, pos, negsuc, zero, codes}
use Rattle.std.specs.Option.{unwrap_or}
use Rattle.std.specs.Str.{bytes_eq}
use Rattle.cps_textproto.specs.Trees.{Tree, no_fields, field, Values, no_values, scalar_value, message_value}
use Rattle.cps_model.specs.declared.model.CpModel.{CpModel}
use Rattle.cps_model.specs.declared.model.Variable.{Variable}
use Rattle.cps_model.specs.declared.model.Objective.{Objective}
use Rattle.cps_model.specs.declared.model.LinearExpr.{LinearExpr}
use Rattle.cps_model.specs.declared.steering.Strategy.{Strategy}
use Rattle.cps_model.specs.declared.steering.Hint.{Hint}
use Rattle.cps_model.specs.declared.steering.Choose.TheVariants.{First}
use Rattle.cps_model.specs.declared.steering.Select.TheVariants.{MinValue}
use Rattle.cps_model.specs.declared.fault.FaultName.{FaultName}
use Rattle.cps_model.specs.declared.constraint.Constraint.{Constraint}
use Rattle.cps_model.specs.declared.constraint.Kind.{Kind}
use Rattle.cps_model.specs.declared.constraint.Kind.TheVariants.{Empty, BoolOr, BoolAnd, AtMostOne, ExactlyOne, BoolXor, Linear, IntDiv, IntMod, IntProd, LinMax, Element, Table, AllDiff, Circuit, Interval, NoOverlap, Cumulative, Inverse, Automaton, Reservoir, NoOverlap2d}
use Rattle.cps_schema.specs.declared.kind.KindName.{KindName}
use Rattle.cps_schema.specs.declared.kind.KindName.TheVariants as names
use Rattle.cps_schema.specs.declared.member.Enum.{Enum}
use Rattle.cps_schema.specs.declared.member.Enum.TheVariants.{VariableSelection, DomainReduction}
use Rattle.cps_schema.specs.Written.{Written, token_text, number_at}
use Rattle.cps_schema.specs.Texts.{text_at}
use Rattle.cps_schema.specs.Truths.{truth_at}
use Rattle.cps_schema.specs.Members.{member_at, choose_of, select_of}
use Rattle.cps_schema.specs.Tables.{model_message}
use Rattle.cps_schema.specs.Kinds.{kind_named}
use Rattle.cps_schema.specs.Faults.{fields_fault}
use Rattle.cps_model.specs.Values.{reference_expression}

-- the first of a list, or another value where it is empty
abbrev pub first_or : {X : Type 0} → X → List X → X
first_or other [] = other
first_or other (x ∷ xs) = x

abbrev pub first_of : {X : Type 0} → List X → Option X
first_of [] = None
first_of (x ∷ xs) = Some x

abbrev pub ok_or_zero : Result ℕ FaultName → ℕ
ok_or_zero (Ok n) = n
ok_or_zero (Err name) = 0

-- the numbers of values
abbrev pub value_numbers : Written → Values → List ℤ
value_numbers w no_values = []
value_numbers w (scalar_value first end rest) = number_at w first ∷ value_numbers w rest
value_numbers w (message_value first inner rest) = value_numbers w rest

-- the texts of values
abbrev pub value_texts : Written → Values → List (List ℕ)
value_texts w no_values = []
value_texts w (scalar_value first end rest) = unwrap_or (text_at w first end) [] ∷ value_texts w rest
value_texts w (message_value first inner rest) = value_texts w rest

-- the numbers of the members that values give
abbrev pub value_members : Written → Enum → Values → List ℕ
value_members w enum no_values = []
value_members w enum (scalar_value first end rest) = ok_or_zero (member_at w enum first) ∷ value_members w enum rest
value_members w enum (message_value first inner rest) = value_members w enum rest

-- the truth values of values
abbrev pub value_truths : Written → Values → List Bool
value_truths w no_values = []
value_truths w (scalar_value first end rest) = unwrap_or (truth_at w first) false ∷ value_truths w rest
value_truths w (message_value first inner rest) = value_truths w rest

-- the messages of values
abbrev pub value_messages : Values → List Tree
value_messages no_values = []
value_messages (scalar_value first end rest) = value_messages rest
value_messages (message_value first inner rest) = inner ∷ value_messages rest

-- the numbers of all fields of a name, in order
abbrev pub numbers : Written → List ℕ → Tree → List ℤ
numbers w name no_fields = []
numbers w name (field token list values rest) =
    (if bytes_eq (token_text w token) name then value_numbers w values else []) ++ numbers w name rest

-- their texts
abbrev pub texts : Written → List ℕ → Tree → List (List ℕ)
texts w name no_fields = []
texts w name (field token list values rest) =
    (if bytes_eq (token_text w token) name then value_texts w values else []) ++ texts w name rest

-- their members
abbrev pub members : Written → Enum → List ℕ → Tree → List ℕ
members w enum name no_fields = []
members w enum name (field token list values rest) =
    (if bytes_eq (token_text w token) name then value_members w enum values else []) ++ members w enum name rest

-- their truth values
abbrev pub truths : Written → List ℕ → Tree → List Bool
truths w name no_fields = []
truths w name (field token list values rest) =
    (if bytes_eq (token_text w token) name then value_truths w values else []) ++ truths w name rest

-- their messages
abbrev pub messages : Written → List ℕ → Tree → List Tree
messages w name no_fields = []
messages w name (field token list values rest) =
    (if bytes_eq (token_text w token) name then value_messages values else []) ++ messages w name rest

-- the name that a message gives, empty where it gives none
abbrev pub read_name : Written → Tree → List ℕ
read_name w tree = first_or [] (texts w (codes "name") tree)

abbrev pub read_variable : Written → Tree → Variable
read_variable w tree = record { name = read_name w tree; domain = numbers w (codes "domain") tree }

abbrev pub read_literals : Written → Tree → List ℤ
read_literals w tree = numbers w (codes "literals") tree

abbrev pub read_intervals : Written → Tree → List ℤ
read_intervals w tree = numbers w (codes "intervals") tree

abbrev pub read_linear : Written → Tree → Kind
read_linear w tree =
    Linear (numbers w (codes "vars") tree) (numbers w (codes "coeffs") tree) (numbers w (codes "domain") tree)

abbrev pub read_expression : Written → Tree → LinearExpr
read_expression w tree = record {
  vars = numbers w (codes "vars") tree;
  coeffs = numbers w (codes "coeffs") tree;
  offset = first_or (pos 0) (numbers w (codes "offset") tree);
}

-- the expressions of all fields of a name
abbrev pub expressions : Written → List ℕ → Tree → List LinearExpr
expressions w name tree = map (read_expression w) (messages w name tree)

-- the same of references
abbrev pub references : Written → List ℕ → Tree → List LinearExpr
references w name tree = map reference_expression (numbers w name tree)

-- the expression without terms that is 0
abbrev pub no_expression : LinearExpr
no_expression = record { vars = []; coeffs = []; offset = pos 0 }

-- the expression of a single field, and that one where it is not given
abbrev pub the_expression : Written → List ℕ → Tree → LinearExpr
the_expression w name tree = first_or no_expression (expressions w name tree)

-- the number of a single field, 0 where it is not given
abbrev pub the_number : Written → List ℕ → Tree → ℤ
the_number w name tree = first_or (pos 0) (numbers w name tree)

-- a field of the name is given
abbrev pub gives : Written → List ℕ → Tree → Bool
gives w name no_fields = false
gives w name (field token _ _ rest) = bytes_eq (token_text w token) name || gives w name rest

abbrev pub read_int_div : Written → Tree → Kind
read_int_div w tree = IntDiv (the_expression w (codes "target") tree) (expressions w (codes "exprs") tree)

abbrev pub read_int_mod : Written → Tree → Kind
read_int_mod w tree = IntMod (the_expression w (codes "target") tree) (expressions w (codes "exprs") tree)

abbrev pub read_int_prod : Written → Tree → Kind
read_int_prod w tree = IntProd (the_expression w (codes "target") tree) (expressions w (codes "exprs") tree)

abbrev pub read_lin_max : Written → Tree → Kind
read_lin_max w tree = LinMax (the_expression w (codes "target") tree) (expressions w (codes "exprs") tree)

abbrev pub read_all_diff : Written → Tree → Kind
read_all_diff w tree = AllDiff (expressions w (codes "exprs") tree)

-- An element is given in the newer or the older form. One without a fault has not both.
abbrev pub is_older_element : Written → Tree → Bool
is_older_element w tree = gives w (codes "index") tree || gives w (codes "target") tree || gives w (codes "vars") tree

abbrev pub read_newer_element : Written → Tree → Kind
read_newer_element w tree =
    Element (the_expression w (codes "linear_index") tree) (the_expression w (codes "linear_target") tree)
    (expressions w (codes "exprs") tree)

abbrev pub read_older_element : Written → Tree → Kind
read_older_element w tree =
    Element (reference_expression (the_number w (codes "index") tree))
    (reference_expression (the_number w (codes "target") tree))
    (references w (codes "vars") tree)

abbrev pub read_element : Written → Tree → Kind
read_element w tree = if is_older_element w tree then read_older_element w tree else read_newer_element w tree

-- So are the expressions of a table and of an automaton.
abbrev pub expressions_of_a_form : Written → Tree → List LinearExpr
expressions_of_a_form w tree = expressions w (codes "exprs") tree ++ references w (codes "vars") tree

abbrev pub read_table : Written → Tree → Kind
read_table w tree =
    Table (expressions_of_a_form w tree) (numbers w (codes "values") tree)
    (first_or false (truths w (codes "negated") tree))

abbrev pub read_circuit : Written → Tree → Kind
read_circuit w tree =
    Circuit (numbers w (codes "tails") tree) (numbers w (codes "heads") tree) (numbers w (codes "literals") tree)

abbrev pub read_interval : Written → Tree → Kind
read_interval w tree =
    Interval (the_expression w (codes "start") tree) (the_expression w (codes "end") tree)
    (the_expression w (codes "size") tree)

abbrev pub read_cumulative : Written → Tree → Kind
read_cumulative w tree =
    Cumulative (the_expression w (codes "capacity") tree) (numbers w (codes "intervals") tree)
    (expressions w (codes "demands") tree)

abbrev pub read_inverse : Written → Tree → Kind
read_inverse w tree = Inverse (numbers w (codes "f_direct") tree) (numbers w (codes "f_inverse") tree)

abbrev pub read_automaton : Written → Tree → Kind
read_automaton w tree =
    Automaton (the_number w (codes "starting_state") tree) (numbers w (codes "final_states") tree)
    (numbers w (codes "transition_tail") tree) (numbers w (codes "transition_head") tree)
    (numbers w (codes "transition_label") tree) (expressions_of_a_form w tree)

abbrev pub read_reservoir : Written → Tree → Kind
read_reservoir w tree =
    Reservoir (the_number w (codes "min_level") tree) (the_number w (codes "max_level") tree)
    (expressions w (codes "time_exprs") tree) (expressions w (codes "level_changes") tree)
    (numbers w (codes "active_literals") tree)

abbrev pub read_boxes : Written → Tree → Kind
read_boxes w tree = NoOverlap2d (numbers w (codes "x_intervals") tree) (numbers w (codes "y_intervals") tree)

-- the kind of this name that a message gives
abbrev pub read_kind : Written → KindName → Tree → Kind
read_kind w names.BoolOr tree = BoolOr (read_literals w tree)
read_kind w names.BoolAnd tree = BoolAnd (read_literals w tree)
read_kind w names.AtMostOne tree = AtMostOne (read_literals w tree)
read_kind w names.ExactlyOne tree = ExactlyOne (read_literals w tree)
read_kind w names.BoolXor tree = BoolXor (read_literals w tree)
read_kind w names.IntDiv tree = read_int_div w tree
read_kind w names.IntMod tree = read_int_mod w tree
read_kind w names.IntProd tree = read_int_prod w tree
read_kind w names.LinMax tree = read_lin_max w tree
read_kind w names.Linear tree = read_linear w tree
read_kind w names.AllDiff tree = read_all_diff w tree
read_kind w names.Element tree = read_element w tree
read_kind w names.Circuit tree = read_circuit w tree
read_kind w names.Table tree = read_table w tree
read_kind w names.Interval tree = read_interval w tree
read_kind w names.NoOverlap tree = NoOverlap (read_intervals w tree)
read_kind w names.Cumulative tree = read_cumulative w tree
read_kind w names.Automaton tree = read_automaton w tree
read_kind w names.Inverse tree = read_inverse w tree
read_kind w names.Reservoir tree = read_reservoir w tree
read_kind w names.NoOverlap2d tree = read_boxes w tree

-- the kinds that messages give
abbrev pub kinds_of : Written → Option KindName → List Tree → List Kind
kinds_of w None inner = []
kinds_of w (Some name) inner = map (read_kind w name) inner

-- the kinds that a constraint's fields give. A constraint without a fault has at most one.
abbrev pub given_kinds : Written → Tree → List Kind
given_kinds w no_fields = []
given_kinds w (field token list values rest) =
    kinds_of w (kind_named (token_text w token)) (value_messages values) ++ given_kinds w rest

abbrev pub read_constraint : Written → Tree → Constraint
read_constraint w tree = record {
  name = read_name w tree;
  enforcement = numbers w (codes "enforcement_literal") tree;
  kind = first_or Empty (given_kinds w tree);
}

-- a scaling factor of 0 counts as 1
abbrev pub scaling_of : ℤ → ℤ
scaling_of (pos zero) = pos 1
scaling_of (pos (suc n)) = pos (suc n)
scaling_of (negsuc n) = negsuc n

abbrev pub read_objective : Written → Tree → Objective
read_objective w tree = record {
  vars = numbers w (codes "vars") tree;
  coeffs = numbers w (codes "coeffs") tree;
  offset = first_or (pos 0) (numbers w (codes "offset") tree);
  scaling = scaling_of (first_or (pos 0) (numbers w (codes "scaling_factor") tree));
  domain = numbers w (codes "domain") tree;
}

-- A strategy's expressions are given in the newer or the older form. One without a fault has not both.
abbrev pub read_strategy : Written → Tree → Strategy
read_strategy w tree = record {
  exprs = map (read_expression w) (messages w (codes "exprs") tree) ++ map reference_expression
      (numbers w (codes "variables") tree);
  choose = first_or First (map choose_of (members w VariableSelection (codes "variable_selection_strategy") tree));
  select = first_or MinValue (map select_of (members w DomainReduction (codes "domain_reduction_strategy") tree));
}

abbrev pub read_hint : Written → Tree → Hint
read_hint w tree = record { vars = numbers w (codes "vars") tree; values = numbers w (codes "values") tree }

abbrev pub read_model : Written → Tree → CpModel
read_model w tree = record {
  name = read_name w tree;
  variables = map (read_variable w) (messages w (codes "variables") tree);
  constraints = map (read_constraint w) (messages w (codes "constraints") tree);
  objective = first_of (map (read_objective w) (messages w (codes "objective") tree));
  strategies = map (read_strategy w) (messages w (codes "search_strategy") tree);
  hint = first_of (map (read_hint w) (messages w (codes "solution_hint") tree));
  assumptions = numbers w (codes "assumptions") tree;
}

-- no field is refused, and this is the model that the fields give
pub record ReadsAs (w : Written) (tree : Tree) (m : CpModel) : Type 0 where
  pub accepted : fields_fault w model_message [] tree ≡ None
  pub reading : m ≡ read_model w tree

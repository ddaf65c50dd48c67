-- What the parts that were read so far and further fields give together.
use Rattle.std.specs.Prelude.{◌≡◌, ◌++◌, ℕ, Bool, true, false, List, [], ◌∷◌, map, Option, Some, None, is_some, ℤ, pos, codes}
use Rattle.std.specs.Option.{option_to_list}
use Rattle.std.specs.Str.{bytes_eq}
use Rattle.cps_textproto.specs.Trees.{Tree}
use Rattle.cps_model.specs.declared.model.CpModel.{CpModel}
use Rattle.cps_model.specs.declared.model.Objective.{Objective}
use Rattle.cps_model.specs.declared.model.Variable.{Variable}
use Rattle.cps_model.specs.declared.model.LinearExpr.{LinearExpr}
use Rattle.cps_model.specs.declared.steering.Strategy.{Strategy}
use Rattle.cps_model.specs.declared.steering.Hint.{Hint}
use Rattle.cps_model.specs.declared.steering.Choose.TheVariants.{First}
use Rattle.cps_model.specs.declared.steering.Select.TheVariants.{MinValue}
use Rattle.cps_model.specs.declared.constraint.Constraint.{Constraint}
use Rattle.cps_model.specs.declared.constraint.Kind.{Kind}
use Rattle.cps_model.specs.declared.constraint.Kind.TheVariants.{Empty, Linear}
use Rattle.cps_schema.specs.declared.linear.LinearParts.{LinearParts}
use Rattle.cps_schema.specs.declared.model.ModelParts.{ModelParts}
use Rattle.cps_schema.specs.declared.objective.ObjectiveParts.{ObjectiveParts}
use Rattle.cps_schema.specs.declared.constraint.ConstraintParts.{ConstraintParts}
use Rattle.cps_schema.specs.declared.variable.VariableParts.{VariableParts}
use Rattle.cps_schema.specs.declared.expression.ExpressionParts.{ExpressionParts}
use Rattle.cps_schema.specs.declared.strategy.StrategyParts.{StrategyParts}
use Rattle.cps_schema.specs.declared.hint.HintParts.{HintParts}
use Rattle.cps_schema.specs.declared.form.Form.{Form}
use Rattle.cps_schema.specs.declared.form.Form.TheVariants.{Older, Newer}
use Rattle.cps_schema.specs.declared.member.Enum.TheVariants.{VariableSelection, DomainReduction}
use Rattle.cps_schema.specs.declared.kind.GivenKind.{GivenKind}
use Rattle.cps_schema.specs.declared.kind.KindName.{KindName}
use Rattle.cps_schema.specs.Written.{Written}
use Rattle.cps_schema.specs.Tables.{constraint_message, strategy_message, is_given}
use Rattle.cps_schema.specs.Kinds.{field_name}
use Rattle.cps_schema.specs.Members.{choose_of, select_of}
use Rattle.cps_schema.specs.Faults.{has_kind, has_other_form}
use Rattle.cps_schema.specs.Slots.{AreGivenSlots}
use Rattle.cps_schema.specs.Readings.{first_or, first_of, numbers, texts, members, messages, given_kinds, scaling_of, read_variable, read_constraint, read_objective, read_expression, read_strategy, read_hint}
use Rattle.cps_model.specs.Values.{reference_expression}

abbrev pub linear_from : Written → LinearParts → Tree → Kind
linear_from w parts rest =
    Linear (parts.vars.items ++ numbers w (codes "vars") rest)
    (parts.coeffs.items ++ numbers w (codes "coeffs") rest)
    (parts.domain.items ++ numbers w (codes "domain") rest)

abbrev pub objective_from : Written → ObjectiveParts → Tree → Objective
objective_from w parts rest = record {
  vars = parts.vars.items ++ numbers w (codes "vars") rest;
  coeffs = parts.coeffs.items ++ numbers w (codes "coeffs") rest;
  offset = first_or (pos 0) (option_to_list parts.offset ++ numbers w (codes "offset") rest);
  scaling = scaling_of (first_or (pos 0) (option_to_list parts.scaling ++ numbers w (codes "scaling_factor") rest));
  domain = parts.domain.items ++ numbers w (codes "domain") rest;
}

-- the single fields that were read are those with one of these names
pub record IsGivenObjective (offset scaling : Option ℤ) (before : List (List ℕ)) : Type 0 where
  pub offset_given : is_given before (codes "offset") ≡ is_some offset
  pub scaling_given : is_given before (codes "scaling_factor") ≡ is_some scaling

-- the kind that was read
abbrev pub kind_list : Option GivenKind → List Kind
kind_list None = []
kind_list (Some given) = given.kind ∷ []

-- the name that was read, and else the first of further ones
abbrev pub name_from : Written → Option (List ℕ) → Tree → List ℕ
name_from w name rest = first_or [] (option_to_list name ++ texts w (codes "name") rest)

abbrev pub variable_from : Written → VariableParts → Tree → Variable
variable_from w parts rest = record {
  name = name_from w parts.name rest;
  domain = parts.domain.items ++ numbers w (codes "domain") rest;
}

abbrev pub variable_slots : VariableParts → List (List ℕ × Bool)
variable_slots parts = (codes "name", is_some parts.name) ∷ []

abbrev pub expression_from : Written → ExpressionParts → Tree → LinearExpr
expression_from w parts rest = record {
  vars = parts.vars.items ++ numbers w (codes "vars") rest;
  coeffs = parts.coeffs.items ++ numbers w (codes "coeffs") rest;
  offset = first_or (pos 0) (option_to_list parts.offset ++ numbers w (codes "offset") rest);
}

abbrev pub expression_slots : ExpressionParts → List (List ℕ × Bool)
expression_slots parts = (codes "offset", is_some parts.offset) ∷ []

abbrev pub hint_from : Written → HintParts → Tree → Hint
hint_from w parts rest = record {
  vars = parts.vars.items ++ numbers w (codes "vars") rest;
  values = parts.values.items ++ numbers w (codes "values") rest;
}

abbrev pub strategy_from : Written → StrategyParts → Tree → Strategy
strategy_from w parts rest = record {
  exprs =
      (parts.exprs.items ++ map (read_expression w) (messages w (codes "exprs") rest))
      ++ map reference_expression (parts.variables.items ++ numbers w (codes "variables") rest);
  choose = first_or First
      (option_to_list parts.choose ++ map choose_of
      (members w VariableSelection (codes "variable_selection_strategy") rest));
  select = first_or MinValue
      (option_to_list parts.select ++ map select_of
      (members w DomainReduction (codes "domain_reduction_strategy") rest));
}

-- a form is known, and it is the other one
abbrev pub is_other : Option Form → Form → Bool
is_other (Some Older) Newer = true
is_other (Some Newer) Older = true
is_other given form = false

abbrev pub strategy_slots : StrategyParts → List (List ℕ × Bool)
strategy_slots parts =
    (codes "variable_selection_strategy", is_some parts.choose)
    ∷ (codes "domain_reduction_strategy", is_some parts.select)
    ∷ []

-- the single fields and the form that were read are those of the fields with these names
pub record IsStrategyGiven (parts : StrategyParts) (before : List (List ℕ)) : Type 0 where
  pub slots : AreGivenSlots (strategy_slots parts) before
  pub forms : (form : Form) → has_other_form strategy_message form before ≡ is_other parts.form form

abbrev pub constraint_from : Written → ConstraintParts → Tree → Constraint
constraint_from w parts rest = record {
  name = name_from w parts.name rest;
  enforcement = parts.enforcement.items ++ numbers w (codes "enforcement_literal") rest;
  kind = first_or Empty (kind_list parts.given ++ given_kinds w rest);
}

-- the field of this kind is the one that was read
abbrev pub is_given_as : Option GivenKind → KindName → Bool
is_given_as None name = false
is_given_as (Some given) name = bytes_eq (field_name name) (field_name given.name)

-- the kind that was read is that of the field with one of these names
pub record IsKindGiven (given : Option GivenKind) (before : List (List ℕ)) : Type 0 where
  pub name_given : (name : KindName) → is_given before (field_name name) ≡ is_given_as given name
  pub kind_given : has_kind constraint_message before ≡ is_some given

-- and so are the name and the kind of a constraint
pub record IsConstraintGiven (parts : ConstraintParts) (before : List (List ℕ)) : Type 0 where
  pub name : is_given before (codes "name") ≡ is_some parts.name
  pub kind : IsKindGiven parts.given before

abbrev pub model_from : Written → ModelParts → Tree → CpModel
model_from w parts rest = record {
  name = name_from w parts.name rest;
  variables = parts.variables.items ++ map (read_variable w) (messages w (codes "variables") rest);
  constraints = parts.constraints.items ++ map (read_constraint w) (messages w (codes "constraints") rest);
  objective = first_of (option_to_list parts.objective ++ map (read_objective w) (messages w (codes "objective") rest));
  strategies = parts.strategies.items ++ map (read_strategy w) (messages w (codes "search_strategy") rest);
  hint = first_of (option_to_list parts.hint ++ map (read_hint w) (messages w (codes "solution_hint") rest));
  assumptions = parts.assumptions.items ++ numbers w (codes "assumptions") rest;
}

abbrev pub model_slots : ModelParts → List (List ℕ × Bool)
model_slots parts =
    (codes "name", is_some parts.name)
    ∷ (codes "objective", is_some parts.objective)
    ∷ (codes "solution_hint", is_some parts.hint)
    ∷ []

-- An instance of a valid model has few subjects.
use Rattle.std.specs.Prelude.{Option, Some, None, sum_by}
use Rattle.std.specs.List.{flat_map}
use Rattle.std.proofs.Common.{◌≡◌, ℕ, ◌<◌, ◌≤◌, ◌^◌, List, [], ◌∷◌, length, ap, arith}
use Rattle.std.proofs.Math.ListN.{length-append}
use Rattle.std.proofs.lemmas.List.Sums.{sum_by-cons}
use Rattle.cps_model.specs.declared.constraint.Constraint.{Constraint}
use Rattle.cps_model.specs.declared.model.LinearExpr.{LinearExpr}
use Rattle.cps_model.specs.declared.steering.Strategy.{Strategy}
use Rattle.cps_model.specs.Rules.{expression_entries}
use Rattle.cps_model.specs.Validity.{constraint_entries, strategy_entries}
use Rattle.cps_validate.proofs.Sizes.{sizes_of}
use Rattle.cps_instance.specs.Problem.{Problem, IsInstance}
use Rattle.cps_instance.specs.Posting.{expressions_of}
use Rattle.cps_instance.specs.Strategies.{strategy_sums, sums_of_constraint, constraint_sums, model_sums}
use Rattle.cps_instance.specs.Sums.{DefinedSum}
use Rattle.cps_instance.specs.Writing.{plain_subject, unless_plain, expression_sums}
use Rattle.cps_instance.proofs.Drafting.{constraint_most}

-- each expression writes one sum at most
one_sum : (o : Option ℕ) (e : LinearExpr) → length (unless_plain o e) ≤ 1
one_sum (Some i) e = omega arith
one_sum None e = omega arith

sums_most : (es : List LinearExpr) → length (flat_map expression_sums es) ≤ length es
sums_most [] = omega arith
sums_most (e ∷ es) =
    let one = one_sum (plain_subject e) e in
    let rest = sums_most es in
    let both = length-append (expression_sums e) (flat_map expression_sums es) in
    omega arith

entries_most : (es : List LinearExpr) → length es ≤ sum_by expression_entries es
entries_most [] = omega arith
entries_most (e ∷ es) = let rest = entries_most es in omega (arith, sum_by-cons expression_entries e es)

strategies_most : (ss : List Strategy) → length (strategy_sums ss) ≤ sum_by strategy_entries ss
strategies_most [] = omega arith
strategies_most (s ∷ ss) =
    let own = sums_most s.exprs in
    let most = entries_most s.exprs in
    let rest = strategies_most ss in
    let both = length-append (flat_map expression_sums s.exprs) (strategy_sums ss) in
    omega (arith, sum_by-cons strategy_entries s ss)

constraints_most : (cs : List Constraint) → length (constraint_sums cs) ≤ sum_by constraint_entries cs
constraints_most [] = omega arith
constraints_most (c ∷ cs) =
    let own = sums_most (expressions_of c.kind) in
    let most = constraint_most c in
    let rest = constraints_most cs in
    let both = length-append (sums_of_constraint c) (constraint_sums cs) in
    omega (arith, sum_by-cons constraint_entries c cs)

pub few_subjects : (p : Problem) → IsInstance p → p.defs ≡ model_sums p.model → length p.domains < 2 ^ 30
few_subjects p h sums =
    let sizes = sizes_of p.model h.valid in
    let few = sizes.variables in
    let entries = sizes.entries in
    let count = h.domains.count in
    let all = ap (λ (ss : List DefinedSum). length ss) sums in
    let both = length-append (strategy_sums p.model.strategies) (constraint_sums p.model.constraints) in
    let by_strategies = strategies_most p.model.strategies in
    let by_constraints = constraints_most p.model.constraints in
    omega arith

-- A model of which each part keeps each rule is valid.
use Rattle.std.specs.Prelude.{◌==◌, ◌&&◌, nat_le, nat_lt, ◌^◌, sum_by, Option, Some, None, int_le}
use Rattle.std.specs.List.{list_all, All}
use Rattle.std.proofs.Common.{◌≡◌, ℕ, ◌+◌, ◌<◌, ◌≤◌, ℤ, pos, List, [], ◌∷◌, ◌++◌, length, Bool, true, arith, refl, ap, ◌∙◌}
use Rattle.std.proofs.lemmas.Bool.{lt-ltb, le-leb, and_from}
use Rattle.std.proofs.lemmas.List.Elements.{All-head, All-tail}
use Rattle.cps_model.specs.declared.model.Variable.{Variable}
use Rattle.cps_model.specs.declared.model.LinearExpr.{LinearExpr}
use Rattle.cps_model.specs.declared.model.Objective.{Objective}
use Rattle.cps_model.specs.declared.constraint.Constraint.{Constraint}
use Rattle.cps_model.specs.declared.constraint.Kind.TheVariants.{Linear, Circuit, Interval, NoOverlap}
use Rattle.cps_model.specs.declared.place.Place.{Place}
use Rattle.cps_model.specs.declared.place.Place.TheVariants as places
use Rattle.cps_model.specs.Within.{is_well_shaped}
use Rattle.cps_model.specs.Rules.{names, names_boolean, names_variables, is_paired, has_small_reach}
use Rattle.cps_model.specs.KindRules.{names_interval, has_nodes}
use Rattle.cps_model.specs.Validity.{first_broken, or_else, at_place, first_faulty, variable_fault, constraint_fault, objective_fault, size_fault, variable_entries, constraint_entries, entry_count, IsValid}
use Rattle.cps_gen.specs.Parts.{up_to, in_force, least_of, model_of}

or_none : {X : Type 0} (x y : Option X) → x ≡ None → y ≡ None → or_else x y ≡ None
or_none x y e f = ap (λ o. or_else o y) e ∙ f

at_none : (p : Place) (f : Option ℕ) → f ≡ None → at_place p f ≡ None
at_none p f e = ap (at_place p) e

none_faulty : {X : Type 0} (fault : X → Option ℕ) (place : ℕ → Place) (i : ℕ) (xs : List X) → All (λ x. fault x ≡ None) xs → first_faulty fault place i xs ≡ None
none_faulty fault place i [] h = refl
none_faulty fault place i (x ∷ xs) h =
    or_none (at_place (place i) (fault x)) (first_faulty fault place (i + 1) xs) (at_none (place i) (fault x) (All-head (λ y. fault y ≡ None) x xs h))
    (none_faulty fault place (i + 1) xs (All-tail (λ y. fault y ≡ None) x xs h))

-- the parts of a model that keep the rules
pub record AreKept (vs : List Variable) (cs : List Constraint) (o : Objective) : Type 0 where
  pub few_variables : length vs ≤ 2 ^ 20
  pub few_constraints : length cs ≤ 2 ^ 20
  pub entries : sum_by variable_entries vs + sum_by constraint_entries cs + (length o.vars + length o.domain) ≤ 2 ^ 24
  pub variables : All (λ v. variable_fault v ≡ None) vs
  pub constraints : All (λ c. constraint_fault vs cs c ≡ None) cs
  pub objective : objective_fault vs (Some o) ≡ None

size_kept : (vs : List Variable) (cs : List Constraint) (o : Objective) → AreKept vs cs o → size_fault (model_of vs cs o) ≡ None
size_kept vs cs o k =
    let m = model_of vs cs o in
    let a : nat_le (length vs) (2 ^ 20) ≡ true = le-leb _ _ k.few_variables in
    let b : nat_le (length cs) (2 ^ 20) ≡ true = le-leb _ _ k.few_constraints in
    let c : nat_le (entry_count m) (2 ^ 24) ≡ true = le-leb _ _ (omega (arith, k.entries)) in
    let all : (nat_le (length vs) (2 ^ 20) && nat_le (length cs) (2 ^ 20) && nat_le (entry_count m) (2 ^ 24)) ≡ true =
    and_from _ _ (and_from _ _ a b) c in
    ap (λ (t : Bool). first_broken ((18, t) ∷ (18, nat_lt 0 (2 ^ 32)) ∷ [])) all

pub valid_from : (vs : List Variable) (cs : List Constraint) (o : Objective) → AreKept vs cs o → IsValid (model_of vs cs o)
valid_from vs cs o k =
    or_none _ _ (at_none places.Model _ (size_kept vs cs o k))
    (or_none _ _ (none_faulty variable_fault places.Variable 0 vs k.variables)
    (or_none _ _ (none_faulty (constraint_fault vs cs) places.Constraint 0 cs k.constraints)
    (or_none (at_place places.Objective (objective_fault vs (Some o))) None (at_none places.Objective _ k.objective) refl)))

-- a variable from 0 to a small number
pub up_to_kept : (greatest : ℕ) → greatest < 2 ^ 62 → variable_fault (up_to greatest) ≡ None
up_to_kept greatest small =
    let shaped : int_le (pos 0) (pos greatest) ≡ true = le-leb 0 greatest (omega arith) in
    let bound : nat_lt greatest (2 ^ 62) ≡ true = lt-ltb _ _ small in
    rw (shaped, bound)

-- a sum that keeps the rules
pub record IsKeptSum (vs : List Variable) (e : LinearExpr) : Type 0 where
  pub named : names_variables vs e ≡ true
  pub paired : is_paired e ≡ true
  pub small : has_small_reach vs e ≡ true

-- constraints that are always in force
pub linear_kept : (vs : List Variable) (cs : List Constraint) (vars coeffs domain : List ℤ) → list_all (names (length vs)) vars ≡ true → (length vars == length coeffs) ≡ true → has_small_reach vs (record { vars = vars; coeffs = coeffs; offset = pos 0 }) ≡ true → is_well_shaped domain ≡ true → constraint_fault vs cs (in_force (Linear vars coeffs domain)) ≡ None
linear_kept vs cs vars coeffs domain named paired small shaped = rw (named, paired, small, shaped)

pub interval_kept : (vs : List Variable) (cs : List Constraint) (start end size : LinearExpr) → IsKeptSum vs start → IsKeptSum vs end → IsKeptSum vs size → constraint_fault vs cs (in_force (Interval start end size)) ≡ None
interval_kept vs cs start end size a b c = rw (a.named, b.named, c.named, a.paired, b.paired, c.paired, a.small, b.small, c.small)

pub circuit_kept : (vs : List Variable) (cs : List Constraint) (tails heads literals : List ℤ) → list_all (names (length vs)) literals ≡ true → list_all (names_boolean vs) literals ≡ true → (length tails == length heads) ≡ true → (length tails == length literals) ≡ true → has_nodes tails heads ≡ true → constraint_fault vs cs (in_force (Circuit tails heads literals)) ≡ None
circuit_kept vs cs tails heads literals named boolean ends each nodes =
    let all : list_all (names (length vs)) ([] ++ literals) ≡ true = named in
    let both : list_all (names_boolean vs) ([] ++ literals) ≡ true = boolean in
    rw (all, both, ends, each, nodes)

pub no_overlap_kept : (vs : List Variable) (cs : List Constraint) (intervals : List ℤ) → list_all (names_interval cs) intervals ≡ true → constraint_fault vs cs (in_force (NoOverlap intervals)) ≡ None
no_overlap_kept vs cs intervals named = rw named

pub least_kept : (vs : List Variable) (vars coeffs : List ℤ) (scaling : ℤ) → list_all (names (length vs)) vars ≡ true → (length vars == length coeffs) ≡ true → has_small_reach vs (record { vars = vars; coeffs = coeffs; offset = pos 0 }) ≡ true → objective_fault vs (Some (least_of vars coeffs scaling)) ≡ None
least_kept vs vars coeffs scaling named paired small = rw (named, paired, small)

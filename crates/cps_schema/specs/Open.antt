-- Which kinds a model that was read can have.
use Rattle.std.specs.Prelude.{◌≡◌, ℕ, [], Bool, true, false, not, List, All, IsTrue, codes, map}
use Rattle.std.specs.List.{list_any}
use Rattle.std.specs.Str.{bytes_eq}
use Rattle.cps_model.specs.declared.model.CpModel.{CpModel}
use Rattle.cps_model.specs.declared.constraint.Constraint.{Constraint}
use Rattle.cps_model.specs.declared.constraint.Kind.{Kind}
use Rattle.cps_model.specs.declared.constraint.Kind.TheVariants.{Empty, BoolOr, BoolAnd, AtMostOne, ExactlyOne, BoolXor, Linear, IntDiv, IntMod, IntProd, LinMax, Element, Table, AllDiff, Circuit, Interval, NoOverlap, Cumulative, Inverse, Automaton, Reservoir, NoOverlap2d}
use Rattle.cps_schema.specs.declared.closed.TheConstants.{CLOSED}

-- the fields that the program's table closes
abbrev pub closed_names : List (List ℕ)
closed_names = map (λ name. name.now) CLOSED

-- the field of this name is not closed
abbrev pub is_open_name : List (List ℕ) → List ℕ → Bool
is_open_name closed name = not (list_any (bytes_eq name) closed)

-- the field that gives the kind is not closed
abbrev pub is_open : List (List ℕ) → Kind → Bool
is_open closed Empty = true
is_open closed (BoolOr literals) = is_open_name closed (codes "bool_or")
is_open closed (BoolAnd literals) = is_open_name closed (codes "bool_and")
is_open closed (AtMostOne literals) = is_open_name closed (codes "at_most_one")
is_open closed (ExactlyOne literals) = is_open_name closed (codes "exactly_one")
is_open closed (BoolXor literals) = is_open_name closed (codes "bool_xor")
is_open closed (IntDiv target exprs) = is_open_name closed (codes "int_div")
is_open closed (IntMod target exprs) = is_open_name closed (codes "int_mod")
is_open closed (IntProd target exprs) = is_open_name closed (codes "int_prod")
is_open closed (LinMax target exprs) = is_open_name closed (codes "lin_max")
is_open closed (Linear vars coeffs domain) = is_open_name closed (codes "linear")
is_open closed (AllDiff exprs) = is_open_name closed (codes "all_diff")
is_open closed (Element index target exprs) = is_open_name closed (codes "element")
is_open closed (Circuit tails heads literals) = is_open_name closed (codes "circuit")
is_open closed (Table exprs values negated) = is_open_name closed (codes "table")
is_open closed (Interval start end size) = is_open_name closed (codes "interval")
is_open closed (NoOverlap intervals) = is_open_name closed (codes "no_overlap")
is_open closed (Cumulative capacity intervals demands) = is_open_name closed (codes "cumulative")
is_open closed (Automaton start finals tails heads labels exprs) = is_open_name closed (codes "automaton")
is_open closed (Inverse direct inverse) = is_open_name closed (codes "inverse")
is_open closed (Reservoir min max times changes active) = is_open_name closed (codes "reservoir")
is_open closed (NoOverlap2d x y) = is_open_name closed (codes "no_overlap_2d")

-- the model has no assumptions where they are closed
abbrev pub OpenAssumptions : List (List ℕ) → CpModel → Type 0
OpenAssumptions closed model = is_open_name closed (codes "assumptions") ≡ false → model.assumptions ≡ []

-- the kind of each constraint is open
abbrev pub OpenKinds : List (List ℕ) → CpModel → Type 0
OpenKinds closed model = All (λ (c : Constraint). IsTrue (is_open closed c.kind)) model.constraints

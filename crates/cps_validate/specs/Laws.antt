-- What the rules of a valid model are for: what holds at every assignment within its domains.
use Rattle.std.specs.Prelude.{◌≡◌, ◌≢◌, ℕ, ◌<◌, ◌^◌, IsTrue, ℤ, pos, ◌+ℤ◌, ◌*ℤ◌, ◌≤ℤ◌, unsigned_abs, List, [], ◌∷◌, length, map, take, All, Contains, false, Some}
use Rattle.cps_model.specs.declared.model.CpModel.{CpModel}
use Rattle.cps_model.specs.declared.model.LinearExpr.{LinearExpr}
use Rattle.cps_model.specs.declared.constraint.Constraint.{Constraint}
use Rattle.cps_model.specs.declared.constraint.Kind.{Kind}
use Rattle.cps_model.specs.declared.constraint.Kind.TheVariants.{IntDiv, IntMod, IntProd, Cumulative, Interval}
use Rattle.cps_model.specs.Values.{expression_value}
use Rattle.cps_model.specs.Within.{is_within}
use Rattle.cps_model.specs.Meaning.{values_of}
use Rattle.cps_model.specs.Arithmetic.{product}
use Rattle.cps_model.specs.Scheduling.{constraint_at}
use Rattle.cps_model.specs.Solutions.{IsWithinDomains}
use Rattle.cps_model.specs.Ranges.{least_value, greatest_value}
use Rattle.cps_model.specs.Rules.{names, intervals_of}
use Rattle.cps_model.specs.KindRules.{domain_at, is_never_zero}
use Rattle.cps_validate.specs.Signs.{with_sign_of}

-- some constraint of the model has this kind
abbrev pub HasKind : CpModel → Kind → Type 0
HasKind m kind = Contains (map (λ (c : Constraint). c.kind) m.constraints) kind

abbrev pub IsBetweenLeastAndGreatest : CpModel → Type 0
IsBetweenLeastAndGreatest m =
    (a : List ℤ) (e : LinearExpr) → IsWithinDomains m a
    → (least_value m.variables e ≤ℤ expression_value a e) × (expression_value a e ≤ℤ greatest_value m.variables e)

abbrev pub DividesByNoZero : CpModel → Type 0
DividesByNoZero m =
    (a : List ℤ) (target n d : LinearExpr) → IsWithinDomains m a
    → HasKind m (IntDiv target (n ∷ d ∷ [])) → expression_value a d ≢ pos 0

-- The rule of a divisor asks no more than that: where it refuses one of a single term, some value of the term's
-- variable makes it 0.
abbrev pub RefusesOnlyZero : CpModel → Type 0
RefusesOnlyZero m =
    (r c offset : ℤ) → IsTrue (names (length m.variables) r)
    → is_never_zero m.variables (r ∷ []) (c ∷ []) (record { vars = r ∷ []; coeffs = c ∷ []; offset = offset }) ≡ false
    → (v : ℤ) × IsTrue (is_within (domain_at m.variables r) v) × ((c *ℤ with_sign_of r v) +ℤ offset ≡ pos 0)

abbrev pub HasPositiveModuli : CpModel → Type 0
HasPositiveModuli m =
    (a : List ℤ) (target n d : LinearExpr) → IsWithinDomains m a
    → HasKind m (IntMod target (n ∷ d ∷ [])) → pos 1 ≤ℤ expression_value a d

-- of all factors, and of each first part of them
abbrev pub HasSmallProducts : CpModel → Type 0
HasSmallProducts m =
    (a : List ℤ) (target : LinearExpr) (factors : List LinearExpr) (k : ℕ) → IsWithinDomains m a
    → HasKind m (IntProd target factors) → unsigned_abs (product (values_of a (take k factors))) < 2 ^ 62

abbrev pub HasNoNegativeDemand : CpModel → Type 0
HasNoNegativeDemand m =
    (a : List ℤ) (capacity : LinearExpr) (intervals : List ℤ) (demands : List LinearExpr) → IsWithinDomains m a
    → HasKind m (Cumulative capacity intervals demands) → All (λ d. pos 0 ≤ℤ expression_value a d) demands

-- the constraint of an index is an interval
pub record IsIntervalAt (cs : List Constraint) (i : ℤ) : Type 0 where
  pub constraint : Constraint
  pub listed : constraint_at cs i ≡ Some constraint
  pub start : LinearExpr
  pub end : LinearExpr
  pub size : LinearExpr
  pub interval : constraint.kind ≡ Interval start end size

abbrev pub NamesIntervals : CpModel → Type 0
NamesIntervals m = (kind : Kind) → HasKind m kind → All (IsIntervalAt m.constraints) (intervals_of kind)

-- What a reformed objective says of the solutions below a bound.
use Rattle.std.specs.Prelude.{◌≡◌, ℕ, ◌<◌, ℤ, ◌≤ℤ◌, ◌<ℤ◌, List, [], ◌∷◌, length}
use Rattle.cps_model.specs.declared.bound.Bound.{Bound}
use Rattle.cps_model.specs.declared.bound.Bound.TheVariants.{At}
use Rattle.cps_model.specs.declared.model.CpModel.{CpModel}
use Rattle.cps_model.specs.Solutions.{objective_value, IsSolution}
use Rattle.cps_port.specs.Order.{BoundLe, IsBelow}
use Rattle.cps_instance.specs.Problem.{Problem, IsAssignment}
use Rattle.cps_literal.specs.Truth.{value_at}
use Rattle.cps_instance.specs.Terms.{Domains, domain_at, greatest_of, terms_value}
use Rattle.cps_instance.specs.Sums.{extended, least_sum_of, greatest_sum_of}
use Rattle.cps_reform.specs.declared.held.Held.{Held}
use Rattle.cps_reform.specs.Cores.{core_terms, core_sum}
use Rattle.cps_reform.specs.Forms.{Form, IsAbove, FitsTypes, Reformulates, term_at}

-- a fact of the values of each solution below a bound, the defined sums' after them
abbrev pub OfEachBelow : Problem → Bound → (List ℤ → Type 0) → Type 0
OfEachBelow p z P = (a : List ℤ) → IsSolution p.model a → IsBelow (objective_value p.model a) z → P (extended p.defs a)

-- a solution below a bound has no value below a term's bound
abbrev pub HasFloors : Problem → Bound → Form → Type 0
HasFloors p z f = OfEachBelow p z (λ xs. IsAbove xs f.terms)

-- what a core-guided worker keeps of its form
pub record IsReform (p : Problem) (z : Bound) (f : Form) : Type 0 where
  pub is : Reformulates p f
  pub floor : HasFloors p z f
  pub roomy : FitsTypes p.domains f

abbrev pub IsGreatestObjective : CpModel → ℤ → Type 0
IsGreatestObjective m greatest = (a : List ℤ) → IsSolution m a → objective_value m a ≤ℤ greatest

-- A subject that is the sum of a form's core: it has the core's value at each assignment, and its domain runs from the
-- core's least to the core's greatest value.
pub record IsCoreSum (p : Problem) (ts : List Held) (subject : ℕ) : Type 0 where
  pub within : subject < length p.domains
  pub domain : domain_at p.domains subject
      ≡ (least_sum_of p.domains (core_sum ts), greatest_sum_of p.domains (core_sum ts)) ∷ []
  pub value : (a : List ℤ) → IsAssignment p.model a
      → value_at (extended p.defs a) subject ≡ terms_value (extended p.defs a) (core_terms ts)

-- no solution is below a bound
abbrev pub NoneIsBelow : Problem → Bound → Type 0
NoneIsBelow p z = OfEachBelow p z (λ xs. ⊥)

-- a form that no solution below z can have: its base is at least z or above the greatest objective by the domains, or a
-- bound is above its subject's greatest value
pub data IsFormPast (z : Bound) (greatest : ℤ) (ds : Domains) (f : Form) : Type 0 where
  past_z : BoundLe z (At f.base) → IsFormPast z greatest ds f
  past_greatest : greatest <ℤ f.base → IsFormPast z greatest ds f
  past_domain : (i : ℕ) → i < length f.terms
      → greatest_of (domain_at ds (term_at f.terms i).subject) <ℤ (term_at f.terms i).bound → IsFormPast z greatest ds f

-- The first form of the objective: each of its terms, held at its least value.
use Rattle.std.specs.Prelude.{◌≡◌, ◌<◌, ℕ, ℤ, pos, ◌*ℤ◌, unsigned_abs, false, List, length}
use Rattle.std.specs.List.{AllZip}
use Rattle.cps_literal.specs.Truth.{value_at}
use Rattle.cps_instance.specs.declared.term.Term.{Term}
use Rattle.cps_instance.specs.Problem.{Problem, IsAssignment}
use Rattle.cps_instance.specs.Sums.{extended}
use Rattle.cps_instance.specs.Terms.{domain_at, least_of, magnitude, terms_value}
use Rattle.cps_reform.specs.declared.held.Held.{Held}
use Rattle.cps_reform.specs.Forms.{Form, FitsTypes, form_value}

-- a subject stands for a term: the coefficient's magnitude times its value is what the term is worth at each
-- assignment, and it goes as far as the term's subject
pub record StandsForTerm (p : Problem) (t : Term) (subject : ℕ) : Type 0 where
  pub within : subject < length p.domains
  pub value : (a : List ℤ) → IsAssignment p.model a
      → pos (unsigned_abs t.coeff) *ℤ value_at (extended p.defs a) subject
      ≡ t.coeff *ℤ value_at (extended p.defs a) t.subject
  pub reach : magnitude (domain_at p.domains subject) ≡ magnitude (domain_at p.domains t.subject)

-- a term of a sum is held at its least value
pub record IsHeldFirst (p : Problem) (t : Term) (h : Held) : Type 0 where
  pub holds : StandsForTerm p t h.subject
  pub weight : h.weight ≡ unsigned_abs t.coeff
  pub bound : h.bound ≡ least_of (domain_at p.domains h.subject)
  pub unmarked : h.in_core ≡ false

-- the first form of a sum of terms: each of them is held at its least value, and the base is such that the form is
-- worth what the sum is
pub record IsFirstForm (p : Problem) (ts : List Term) (f : Form) : Type 0 where
  pub terms : AllZip (IsHeldFirst p) ts f.terms
  pub worth : (a : List ℤ) → IsAssignment p.model a
      → form_value (extended p.defs a) f ≡ terms_value (extended p.defs a) ts
  pub roomy : FitsTypes p.domains f

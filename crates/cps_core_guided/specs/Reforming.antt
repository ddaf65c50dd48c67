-- How a core-guided worker reforms its objective, and what it keeps.
use Rattle.std.specs.Prelude.{◌≡◌, ℕ, ◌+◌, ◌≤◌, ◌<◌, ◌^◌, ℤ, pos, ◌+ℤ◌, ◌≤ℤ◌, unsigned_abs, if◌then◌else◌, Bool, true, Option, None, IfSome, List, [], length}
use Rattle.cps_model.specs.declared.bound.Bound.{Bound}
use Rattle.cps_model.specs.declared.bound.Bound.TheVariants.{At, Infinite}
use Rattle.cps_model.specs.declared.model.CpModel.{CpModel}
use Rattle.cps_literal.specs.declared.atom.Atom.{Atom}
use Rattle.cps_instance.specs.Problem.{Problem, Defines}
use Rattle.cps_instance.specs.Posting.{objective_terms}
use Rattle.cps_instance.specs.Terms.{greatest_of_terms}
use Rattle.cps_trail.specs.Trail.{Trail, IsFalseNow, admits}
use Rattle.cps_port.specs.Order.{greater_of}
use Rattle.cps_port.specs.Incumbents.{IsLowerBound}
use Rattle.cps_search.specs.declared.end.End.TheVariants as ends
use Rattle.cps_search.specs.declared.end.Phase.{Phase}
use Rattle.cps_search.specs.declared.end.Phase.TheVariants.{Over}
use Rattle.cps_search.specs.Searches.{Search, IsSoundSearch, NoneBelow}
use Rattle.cps_reform.specs.Forms.{Form, term_at, lifted}
use Rattle.cps_reform.specs.Cores.{core_terms, core_sum, least_weight, split}
use Rattle.cps_reform.specs.Floors.{IsReform}
use Rattle.cps_reform.specs.Marks.{assumed, IsCoreMarked}
use Rattle.cps_core_guided.specs.Assuming.{AssumesFirst}

-- A search with the objective's form; how many sums it defined for cores; the greatest objective by the domains; the
-- greatest value to which the worker itself raised the lower bound; whether it ended in place of a reform, and by which
-- assumptions.
pub record CoreSearch : Type 0 where
  pub search : Search
  pub form : Form
  pub sums : ℕ
  pub greatest : ℤ
  pub raised : Option Bound
  pub ended : Bool
  pub core : List ℤ

-- after this many sums of cores no term is assumed any more
abbrev pub most_sums : ℕ
most_sums = 2 ^ 24

-- the greatest value of the objective's sum by the domains
abbrev pub greatest_objective : Problem → ℤ
greatest_objective p = greatest_of_terms p.domains (objective_terms p.model.objective)

-- the least value that a subject has now
pub record IsLeastAdmitted (s : Trail) (subject : ℕ) (v : ℤ) : Type 0 where
  pub has : admits s.first s.entries subject v ≡ true
  pub least : (x : ℤ) → admits s.first s.entries subject x ≡ true → v ≤ℤ x

-- A reform of a form for a failed term, by the decisions behind its assumption, in a store at level 0: the problem and
-- the form that it comes to, and how many sums it defined.
pub data ReformsTo (bottom : Trail) (p : Problem) (f : Form) (place : ℕ) (decisions : List Atom) : Problem → Form → ℕ → Type 0 where
  -- the assumption is false at level 0: the bound rises to the subject's least value there
  at_bottom : (v : ℤ) → IsFalseNow bottom (assumed (term_at f.terms place))
      → IsLeastAdmitted bottom (term_at f.terms place).subject v
      → ReformsTo bottom p f place decisions p (lifted f place v) 0
  -- it is not, and the core is that term alone: the bound rises by 1
  alone : (g : Form) → (IsFalseNow bottom (assumed (term_at f.terms place)) → ⊥) → IsCoreMarked f g place decisions
      → length (core_terms g.terms) ≡ 1
      → ReformsTo bottom p f place decisions p (lifted g place ((term_at f.terms place).bound +ℤ pos 1)) 0
  -- it is not, and the core has several terms: their weights fall by the least of them, which their sum takes over
  several : (g : Form) (q : Problem) (subject : ℕ) → (IsFalseNow bottom (assumed (term_at f.terms place)) → ⊥)
      → IsCoreMarked f g place decisions → 2 ≤ length (core_terms g.terms) → Defines p q (core_sum g.terms) subject
      → ReformsTo bottom p f place decisions q (split g (least_weight g.terms) subject) 1

-- a worker's phase: it is exhausted, where it ended in place of a reform
abbrev pub phase_of : CoreSearch → Phase
phase_of s = if s.ended then Over ends.Exhausted else s.search.phase

-- the assumptions by which it ended: its own where it ended in place of a reform
abbrev pub core_seen : CoreSearch → List ℤ
core_seen s = if s.ended then s.core else s.search.core

-- the search as it is seen: what the worker itself raised counts too
abbrev pub whole : CoreSearch → Search
whole s = record s.search { raised = greater_of s.search.raised s.raised; core = core_seen s; phase = phase_of s }

-- what a worker ends with in place of a reform: all assumptions where no incumbent is known, and else none
abbrev pub whole_core : CpModel → Bound → List ℤ
whole_core m (At z) = []
whole_core m Infinite = m.assumptions

-- What is true of a core-guided worker as long as it has memory. Its form is worth what the objective is, at every
-- assignment; it has room for all sums to come; and it keeps no log.
pub record IsSoundCore (s : CoreSearch) : Type 0 where
  pub search : IsSoundSearch s.search
  pub form : IsReform s.search.instance s.search.z s.form
  pub base : unsigned_abs s.form.base < 2 ^ 62
  pub greatest : s.greatest ≡ greatest_objective s.search.instance
  pub assumes : s.sums < most_sums → AssumesFirst s.search.instance.model.assumptions s.search.store s.form.terms
  pub few : s.sums ≤ most_sums
  pub room : length s.search.instance.domains + most_sums ≤ 2 ^ 31 + s.sums
  pub raised : IfSome s.raised (IsLowerBound s.search.instance.model)
  pub ended : s.ended ≡ true → NoneBelow s.search.instance.model s.search.z
      × (s.core ≡ whole_core s.search.instance.model s.search.z)
  pub no_log : s.search.log ≡ None

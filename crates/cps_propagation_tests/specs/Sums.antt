-- Small sums over three subjects with the values 0 to 10, enforced by two with the values 0 and 1.
use Rattle.std.specs.Prelude.{◌<◌, ◌≤◌, ℤ, pos, unsigned_abs, Some, List, [], ◌∷◌, length, All}
use Rattle.cps_literal.specs.declared.atom.Atom.{Atom}
use Rattle.cps_instance.specs.declared.term.Term.{Term}
use Rattle.cps_instance.specs.declared.task.Task.{Task}
use Rattle.cps_instance.specs.declared.task.Body.TheVariants as bodies
use Rattle.cps_instance.specs.Terms.{Domains, Intervals}
use Rattle.cps_instance.specs.Sums.{DefinedSum}
use Rattle.cps_propagation_tests.specs.Bits.{bit}

abbrev pub up_to_ten : Intervals
up_to_ten = (pos 0, pos 10) ∷ []

abbrev pub five_domains : Domains
five_domains = up_to_ten ∷ up_to_ten ∷ up_to_ten ∷ bit ∷ bit ∷ []

-- a term over the first three
pub record IsSmallTerm (t : Term) : Type 0 where
  pub subject : t.subject < 3
  pub size : unsigned_abs t.coeff ≤ 100

pub record AreSmallTerms (ts : List Term) : Type 0 where
  pub few : length ts ≤ 4
  pub small : All IsSmallTerm ts

abbrev pub linear_task : List Atom → List Term → List ℤ → Task
linear_task enforcement ts bounds = record { enforcement = enforcement; body = bodies.Linear ts bounds }

-- a subject, and one for three times it and 5 more
abbrev pub sum_domains : Domains
sum_domains = ((pos 0, pos 2) ∷ []) ∷ ((pos 5, pos 11) ∷ []) ∷ []

abbrev pub tripled_sum : DefinedSum
tripled_sum = record { terms = record { coeff = pos 3; subject = 0 } ∷ []; offset = pos 5 }

abbrev pub cut_task : ℤ → Task
cut_task upper = record {
  enforcement = [];
  body = bodies.Cut (record { coeff = pos 1; subject = 0 } ∷ []) (Some upper);
}

-- what asks of nothing
abbrev pub idle_task : Task
idle_task = record { enforcement = []; body = bodies.Empty }

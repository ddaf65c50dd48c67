-- Literals over subjects with the values 0 and 1.
use Rattle.std.specs.Prelude.{ℕ, ◌<◌, ◌≤◌, ◌≡◌, true, pos, ◌≤ℤ◌, [], ◌∷◌, All}
use Rattle.cps_literal.specs.declared.atom.Atom.{Atom}
use Rattle.cps_instance.specs.declared.task.Body.{Body}
use Rattle.cps_instance.specs.Tasks.{subjects_of_body}
use Rattle.cps_instance.specs.Terms.{Domains, Intervals}
use Rattle.cps_instance.specs.Fitting.{IsFittingBody}
use Rattle.cps_propagate.specs.Visits.{is_cheap}

abbrev pub bit : Intervals
bit = (pos 0, pos 1) ∷ []

abbrev pub four_bits : Domains
four_bits = bit ∷ bit ∷ bit ∷ bit ∷ []

-- a literal over the subjects from a number up to another
pub record IsBit (least beyond : ℕ) (u : Atom) : Type 0 where
  pub from : least ≤ u.subject
  pub to : u.subject < beyond
  pub low : pos 0 ≤ℤ u.value
  pub high : u.value ≤ℤ pos 1

-- a body that asks of literals over the four subjects alone
pub record IsOverBits (body : Body) : Type 0 where
  pub cheap : is_cheap body ≡ true
  pub subjects : All (λ i. i < 4) (subjects_of_body body)
  pub fits : IsFittingBody four_bits body

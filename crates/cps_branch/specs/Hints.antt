-- Which value a hint gives a variable, and what is decided by it.
use Rattle.std.specs.Prelude.{ℕ, ◌^◌, ◌==◌, ◌≡◌, nat_lt, ℤ, pos, negsuc, neg_ℤ, unsigned_abs, ◌⊎◌, if◌then◌else◌, Option, Some, None, List, [], ◌∷◌, length, slice_index_or}
use Rattle.cps_model.specs.declared.steering.Hint.{Hint}
use Rattle.cps_model.specs.Values.{variable_of}
use Rattle.cps_literal.specs.declared.atom.Atom.{Atom}
use Rattle.cps_literal.specs.declared.atom.Op.TheVariants.{Eq}
use Rattle.cps_trail.specs.Trail.{Trail}
use Rattle.cps_branch.specs.Fixed.{AreFixed}
use Rattle.cps_branch.specs.Choice.{TakesLeast, IsMostActive}
use Rattle.cps_branch.specs.Strategies.{Admits}

-- the value of a variable at which a reference to it has a value
abbrev pub variable_at : ℤ → ℤ → ℤ
variable_at (pos i) w = w
variable_at (negsuc i) w = neg_ℤ w

-- the same, none where no domain has it
abbrev pub hinted_value : ℤ → ℤ → Option ℤ
hinted_value r w = if nat_lt (unsigned_abs w) (2 ^ 62) then Some (variable_at r w) else None

-- the value that references with values give a variable, by the first that names it
abbrev pub hinted_in : List ℤ → List ℤ → ℕ → Option ℤ
hinted_in [] ws i = None
hinted_in (r ∷ rs) [] i = None
hinted_in (r ∷ rs) (w ∷ ws) i = if variable_of r == i then hinted_value r w else hinted_in rs ws i

abbrev pub hint_for : Option Hint → ℕ → Option ℤ
hint_for None i = None
hint_for (Some h) i = hinted_in h.vars h.values i

-- the atom says that its subject has the value of the hint, where it may have it, and else its least value
abbrev pub TakesHinted : Option ℤ → Trail → Atom → Type 0
TakesHinted None s t = TakesLeast s t
TakesHinted (Some h) s t = ((t.op ≡ Eq) × (t.value ≡ h) × Admits s t.subject h)
    ⊎ ((Admits s t.subject h → ⊥) × TakesLeast s t)

-- the most active subject takes the value of the hint, or its least
abbrev pub ChoosesHinted : List ℕ → List (Option ℤ) → Trail → Option Atom → Type 0
ChoosesHinted activities hints s None = AreFixed s (length activities)
ChoosesHinted activities hints s (Some t) = TakesHinted (slice_index_or hints t.subject None) s t
    × IsMostActive activities s t.subject

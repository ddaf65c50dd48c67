-- Cores: terms that cannot all stay at their bounds.
use Rattle.std.specs.Prelude.{◌≡◌, ◌⊎◌, ℕ, ◌+◌, ◌-◌, ◌^◌, min, unsigned_abs, ◌≤◌, ◌<◌, ℤ, pos, ◌+ℤ◌, ◌<ℤ◌, ◌≤ℤ◌, true, false, if◌then◌else◌, List, [], ◌∷◌, ◌++◌, map, All}
use Rattle.cps_literal.specs.Truth.{value_at}
use Rattle.cps_instance.specs.declared.term.Term.{Term}
use Rattle.cps_instance.specs.Sums.{DefinedSum}
use Rattle.cps_instance.specs.Terms.{Domains, domain_at, greatest_of}
use Rattle.cps_reform.specs.declared.held.Held.{Held}
use Rattle.cps_reform.specs.Forms.{Form}

-- the subject of each term of the core, with coefficient 1
abbrev pub core_terms : List Held → List Term
core_terms [] = []
core_terms (t ∷ ts) = if t.in_core then record { coeff = pos 1; subject = t.subject } ∷ core_terms ts else core_terms ts

-- the core's sum, which is over subjects that there are and has no offset
abbrev pub core_sum : List Held → DefinedSum
core_sum ts = record { terms = core_terms ts; offset = pos 0 }

-- the sum of the core's bounds
abbrev pub core_bound : List Held → ℤ
core_bound [] = pos 0
core_bound (t ∷ ts) = (if t.in_core then t.bound else pos 0) +ℤ core_bound ts

-- the sum of their magnitudes
abbrev pub core_size : List Held → ℕ
core_size [] = 0
core_size (t ∷ ts) = (if t.in_core then unsigned_abs t.bound else 0) + core_size ts

-- the least weight in the core
abbrev pub least_weight : List Held → ℕ
least_weight [] = 2 ^ 64 - 1
least_weight (t ∷ ts) = if t.in_core then min t.weight (least_weight ts) else least_weight ts

-- no term of the core weighs less
abbrev pub WeighAtLeast : ℕ → List Held → Type 0
WeighAtLeast m ts = All (λ t. t.in_core ≡ true → m ≤ t.weight) ts

-- some term of the core is above its bound
abbrev pub IsSomeAbove : List ℤ → List Held → Type 0
IsSomeAbove xs [] = ⊥
IsSomeAbove xs (t ∷ ts) = ((t.in_core ≡ true) × (t.bound <ℤ value_at xs t.subject)) ⊎ IsSomeAbove xs ts

-- a term of the core weighs less, and is in it no more
abbrev pub lessened : ℕ → Held → Held
lessened m t = if t.in_core then record t { weight = t.weight - m; in_core = false } else t

-- a term for the sum of the core
abbrev pub sum_held : ℕ → ℕ → List Held → Held
sum_held m subject ts = record { weight = m; subject = subject; bound = core_bound ts +ℤ pos 1; in_core = false }

-- The core's weights fall by one, which the sum of its subjects takes over, held at one above the sum of the bounds.
abbrev pub split : Form → ℕ → ℕ → Form
split f m subject = record {
  base = f.base +ℤ pos m;
  terms = map (lessened m) f.terms ++ sum_held m subject f.terms ∷ [];
}

-- A core can be split by its least weight, with the sum of its bounds plus 1 as a bound, and the base rises to at most
-- a limit.
pub record Splits (ds : Domains) (f : Form) (subject : ℕ) (limit : ℤ) (weight : ℕ) (bound : ℤ) : Type 0 where
  pub weight_is : weight ≡ least_weight f.terms
  pub bound_is : bound ≡ core_bound f.terms +ℤ pos 1
  pub high : bound ≤ℤ greatest_of (domain_at ds subject)
  pub within : (f.base +ℤ pos weight) ≤ℤ limit
  pub small : weight < 2 ^ 63

-- it cannot: the bound would pass the sum's greatest value, or the base the limit
abbrev pub IsPastSplit : Domains → Form → ℕ → ℤ → Type 0
IsPastSplit ds f subject limit = (greatest_of (domain_at ds subject) <ℤ (core_bound f.terms +ℤ pos 1))
    ⊎ (limit <ℤ (f.base +ℤ pos (least_weight f.terms)))

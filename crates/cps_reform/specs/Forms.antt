-- The objective as a base and weighted excesses.
use Rattle.std.specs.Prelude.{◌≡◌, ℕ, ◌+◌, ◌*◌, ◌<◌, ◌^◌, ℤ, pos, ◌+ℤ◌, ◌-ℤ◌, ◌*ℤ◌, ◌≤ℤ◌, ◌<ℤ◌, ◌⊎◌, false, List, [], ◌∷◌, ◌++◌, All, length, slice_index_or, slice_set}
use Rattle.cps_model.specs.Solutions.{objective_value}
use Rattle.cps_literal.specs.Truth.{value_at}
use Rattle.cps_instance.specs.Problem.{Problem, IsAssignment}
use Rattle.cps_instance.specs.Terms.{Domains, domain_at, magnitude, least_of, greatest_of}
use Rattle.cps_instance.specs.Sums.{extended}
use Rattle.cps_reform.specs.declared.held.Held.{Held}

-- a base, and terms that are held at their bounds
pub record Form : Type 0 where
  pub base : ℤ
  pub terms : List Held

-- what the values of the subjects are above the bounds, each as often as its term weighs
abbrev pub excess : List ℤ → List Held → ℤ
excess xs [] = pos 0
excess xs (t ∷ ts) = pos t.weight *ℤ (value_at xs t.subject -ℤ t.bound) +ℤ excess xs ts

abbrev pub form_value : List ℤ → Form → ℤ
form_value xs f = f.base +ℤ excess xs f.terms

-- at every assignment the form is worth what the objective is
abbrev pub Reformulates : Problem → Form → Type 0
Reformulates p f = (a : List ℤ) → IsAssignment p.model a → objective_value p.model a ≡ form_value (extended p.defs a) f

-- no value is below its bound
abbrev pub IsAbove : List ℤ → List Held → Type 0
IsAbove xs ts = All (λ t. t.bound ≤ℤ value_at xs t.subject) ts

-- each weight times the greatest magnitude in its subject's domain
abbrev pub held_reach : Domains → List Held → ℕ
held_reach ds [] = 0
held_reach ds (t ∷ ts) = t.weight * magnitude (domain_at ds t.subject) + held_reach ds ts

-- a bound between the ends of its subject's domain
pub record IsHeldInDomain (ds : Domains) (t : Held) : Type 0 where
  pub subject : t.subject < length ds
  pub low : least_of (domain_at ds t.subject) ≤ℤ t.bound
  pub high : t.bound ≤ℤ greatest_of (domain_at ds t.subject)
  pub small : magnitude (domain_at ds t.subject) < 2 ^ 62

-- a form in which nothing leaves its type
pub record FitsTypes (ds : Domains) (f : Form) : Type 0 where
  pub terms : All (IsHeldInDomain ds) f.terms
  pub small : held_reach ds f.terms < 2 ^ 62

abbrev pub no_term : Held
no_term = record { weight = 0; subject = 0; bound = pos 0; in_core = false }

abbrev pub term_at : List Held → ℕ → Held
term_at ts i = slice_index_or ts i no_term

-- one more term, held at its subject's least value, which goes to the base
abbrev pub with_held : Domains → Form → ℕ → ℕ → Form
with_held ds f weight subject = record {
  base = f.base +ℤ pos weight *ℤ least_of (domain_at ds subject);
  terms = f.terms ++ record {
    weight = weight;
    subject = subject;
    bound = least_of (domain_at ds subject);
    in_core = false;
  } ∷ [];
}

-- the bound of one term rises, and the base by its weight times as much
abbrev pub lifted : Form → ℕ → ℤ → Form
lifted f i bound = record {
  base = f.base +ℤ pos (term_at f.terms i).weight *ℤ (bound -ℤ (term_at f.terms i).bound);
  terms = slice_set f.terms i (record (term_at f.terms i) { bound = bound; in_core = false });
}

-- The bound of one term can rise, and the base with it by an amount, to at most a limit.
pub record Lifts (ds : Domains) (f : Form) (i : ℕ) (bound limit : ℤ) (amount : ℕ) : Type 0 where
  pub is : pos amount ≡ pos (term_at f.terms i).weight *ℤ (bound -ℤ (term_at f.terms i).bound)
  pub high : bound ≤ℤ greatest_of (domain_at ds (term_at f.terms i).subject)
  pub within : (f.base +ℤ pos amount) ≤ℤ limit
  pub small : amount < 2 ^ 63

-- it cannot: the bound would pass its subject's greatest value, or the base the limit
abbrev pub IsPastLift : Domains → Form → ℕ → ℤ → ℤ → Type 0
IsPastLift ds f i bound limit = (greatest_of (domain_at ds (term_at f.terms i).subject) <ℤ bound)
    ⊎ (limit <ℤ (lifted f i bound).base)

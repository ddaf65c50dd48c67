-- Values that a subject is to be kept off: single ones, and those beyond two ends.
use Rattle.std.specs.Prelude.{◌≡◌, ◌<◌, ℕ, ℤ, List, length, slice_index_or, All, Contains}
use Rattle.cps_literal.specs.declared.atom.Atom.{Atom}
use Rattle.cps_literal.specs.declared.atom.Op.TheVariants.{Ne, Ge, Le}
use Rattle.cps_literal.specs.Truth.{value_at}
use Rattle.cps_instance.specs.declared.task.Body.{Body}
use Rattle.cps_trail.specs.Trail.{Trail, IsAdmitted}
use Rattle.cps_rule.specs.declared.rule.Narrowing.{Narrowing}
use Rattle.cps_rule.specs.Rules.{IsGiven}
use Rattle.cps_p_lookup.specs.Elements.{IsChosen, IsBetween}
use Rattle.cps_p_lookup.specs.Resting.{AreTrue, LeavesAtRest}

-- what is added says that a subject lacks values that are not kept, so it is given where these atoms are
pub record ExcludesValues (subject : ℕ) (kept : ℤ → Type 0) (old new : List Narrowing) : Type 0 where
  pub at : (body : Body) (s : Trail)
      → ((u : Atom) (v : ℤ) → u ≡ record { subject = subject; op = Ne; value = v } → (kept v → ⊥) → IsGiven body s u)
      → All (λ n. IsGiven body s n.target) old → All (λ n. IsGiven body s n.target) new
  pub before : (s : Trail) → AreTrue s new → AreTrue s old

-- what is added keeps a subject between two ends, so it is given where these atoms are
pub record KeepsBetween (subject : ℕ) (low high : ℤ) (s : Trail) (old new : List Narrowing) : Type 0 where
  pub at : (body : Body) → ((u : Atom) → u ≡ record { subject = subject; op = Ge; value = low } → IsGiven body s u)
      → ((u : Atom) → u ≡ record { subject = subject; op = Le; value = high } → IsGiven body s u)
      → All (λ n. IsGiven body s n.target) old → All (λ n. IsGiven body s n.target) new
  pub rests : LeavesAtRest s (IsBetween s subject low high) old new

-- wherever a place is chosen, a list has the target's value
pub record IsListedAt (s : Trail) (i t e k : ℕ) (listed : List ℤ) : Type 0 where
  pub at : (xs : List ℤ) → IsAdmitted s.first s.entries xs → IsChosen i t e k xs → Contains listed (value_at xs t)

-- so it is at each place
pub record AreListed (s : Trail) (i t : ℕ) (es : List ℕ) (listed : List ℤ) : Type 0 where
  pub at : (k : ℕ) → k < length es → IsListedAt s i t (slice_index_or es k 0) k listed

-- one place more
pub record Lists (s : Trail) (i t : ℕ) (es : List ℕ) (k : ℕ) (old new : List ℤ) : Type 0 where
  pub wider : (p e : ℕ) → IsListedAt s i t e p old → IsListedAt s i t e p new
  pub here : IsListedAt s i t (slice_index_or es k 0) k new

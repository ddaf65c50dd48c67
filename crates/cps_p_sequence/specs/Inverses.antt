-- What an inverse gives, value by value, and when two lists mirror each other.
use Rattle.std.specs.Prelude.{◌≡◌, ◌↔◌, ℕ, ◌<◌, ℤ, pos, ◌≤ℤ◌, ◌<ℤ◌, Bool, true, false, List, length, slice_index, All, Contains}
use Rattle.cps_literal.specs.Truth.{value_at}
use Rattle.cps_instance.specs.declared.task.Body.{Body}
use Rattle.cps_instance.specs.declared.task.Body.TheVariants.{Inverse}
use Rattle.cps_instance.specs.Tasks.{HoldsBody, subjects_of_body}
use Rattle.cps_trail.specs.Trail.{Trail, IsTrueNow}
use Rattle.cps_propagate.specs.Now.{IsOpenTo}
use Rattle.cps_rule.specs.declared.rule.Narrowing.{Narrowing}
use Rattle.cps_rule.specs.Rules.{IsGiven}

-- each of these atoms is given by the body
abbrev pub AreGivenPlaces : Body → Trail → List Narrowing → Type 0
AreGivenPlaces b s found = All (λ n. IsGiven b s n.target) found

-- each is true now
abbrev pub AreTrue : Trail → List Narrowing → Type 0
AreTrue s found = All (λ n. IsTrueNow s n.target) found

-- wherever the body holds, a subject's value is one of so many places
pub record HasPlace (b : Body) (i : ℕ) (count : ℤ) : Type 0 where
  pub least : (xs : List ℤ) → HoldsBody b xs → pos 0 ≤ℤ value_at xs i
  pub below : (xs : List ℤ) → HoldsBody b xs → value_at xs i <ℤ count

-- wherever the body holds and one position has the other's number, the other has its number
pub record IsMatched (b : Body) (i : ℕ) (m : ℤ) (j : ℕ) (n : ℤ) : Type 0 where
  pub at : (xs : List ℤ) → HoldsBody b xs → value_at xs i ≡ n → value_at xs j ≡ m

-- so for one position and each of a list that the body reads, both ways
pub record ArePaired (b : Body) (i : ℕ) (m : ℤ) (others : List ℕ) : Type 0 where
  pub read : All (Contains (subjects_of_body b)) others
  pub forth : (k : ℕ) → k < length others → IsMatched b i m (slice_index others k) (pos k)
  pub back : (k : ℕ) → k < length others → IsMatched b (slice_index others k) (pos k) i m

-- so for each position of a list
pub record AllPaired (b : Body) (direct inverse : List ℕ) : Type 0 where
  pub at : (k : ℕ) → k < length direct → ArePaired b (slice_index direct k) (pos k) inverse

-- each value that a subject may have now is one of so many places
pub record IsWithinPlaces (s : Trail) (i : ℕ) (count : ℤ) : Type 0 where
  pub least : (x : ℤ) → IsOpenTo s i x → pos 0 ≤ℤ x
  pub below : (x : ℤ) → IsOpenTo s i x → x <ℤ count

-- one position may have a number of a list exactly where the list's position there may have its number
pub record AreMirroredAt (s : Trail) (i : ℕ) (m : ℤ) (others : List ℕ) : Type 0 where
  pub at : (k : ℕ) → k < length others → IsOpenTo s i (pos k) ↔ IsOpenTo s (slice_index others k) m

-- so for each position of a list
pub record AreMirrored (s : Trail) (direct inverse : List ℕ) : Type 0 where
  pub at : (k : ℕ) → k < length direct → AreMirroredAt s (slice_index direct k) (pos k) inverse

-- whether a body is an inverse
abbrev pub is_inverse : Body → Bool
is_inverse (Inverse direct inverse) = true
is_inverse _ = false

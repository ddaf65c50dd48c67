-- What rest asks of greatest values, products, quotients and remainders: what bounds leave to the target and to the
-- members agrees, end by end.
use Rattle.std.specs.Prelude.{◌≡◌, ◌≢◌, ◌⊎◌, ℕ, ◌<◌, ℤ, pos, neg_ℤ, ◌+ℤ◌, ◌*ℤ◌, ◌≤ℤ◌, ◌<ℤ◌, int_div, List, [], ◌∷◌, length, slice_index_or, All}
use Rattle.std.specs.List.{AllZip}
use Rattle.cps_model.specs.Arithmetic.{product}
use Rattle.cps_trail.specs.Trail.{Trail}
use Rattle.cps_propagate.specs.Now.{IsOpenTo, IsEndNow}

-- some value of the target is at most some member's, and at least some value of each member
pub record MayBeGreatest (s : Trail) (target : ℕ) (exprs : List ℕ) : Type 0 where
  pub reached : (x : ℤ) × (k : ℕ) × (y : ℤ) × IsOpenTo s target x × (k < length exprs)
      × IsOpenTo s (slice_index_or exprs k 0) y × (x ≤ℤ y)
  pub above : (k : ℕ) → k < length exprs
      → (x : ℤ) × (y : ℤ) × IsOpenTo s target x × IsOpenTo s (slice_index_or exprs k 0) y × (y ≤ℤ x)

-- a member's values are all less than each value of the target
abbrev pub FallsShort : Trail → ℕ → ℕ → Type 0
FallsShort s target i = (x y : ℤ) → IsOpenTo s target x → IsOpenTo s i y → y <ℤ x

-- Bounds of a target and of the members of which it is the greatest leave nothing to narrow.
pub record IsStrongGreatest (s : Trail) (target : ℕ) (exprs : List ℕ) : Type 0 where
  -- the target is at most the greatest that some member can be
  pub reached : (x : ℤ) → IsOpenTo s target x
      → (k : ℕ) × (y : ℤ) × (k < length exprs) × IsOpenTo s (slice_index_or exprs k 0) y × (x ≤ℤ y)
  -- the target is at least the least that each member can be
  pub above : (x : ℤ) (k : ℕ) → IsOpenTo s target x → k < length exprs
      → (y : ℤ) × IsOpenTo s (slice_index_or exprs k 0) y × (y ≤ℤ x)
  -- no member is more than the target can be
  pub below : (y : ℤ) (k : ℕ) → k < length exprs → IsOpenTo s (slice_index_or exprs k 0) y
      → (x : ℤ) × IsOpenTo s target x × (y ≤ℤ x)
  -- the only member that reaches the target is no less than the target can be
  pub last : (y : ℤ) (k : ℕ) → k < length exprs
      → ((j : ℕ) → j < length exprs → j ≢ k → FallsShort s target (slice_index_or exprs j 0))
      → IsOpenTo s (slice_index_or exprs k 0) y → (x : ℤ) × IsOpenTo s target x × (x ≤ℤ y)

-- a number between the least and the greatest value that a subject may have now
pub record IsInHull (s : Trail) (i : ℕ) (x : ℤ) : Type 0 where
  pub from : (y : ℤ) × IsOpenTo s i y × (y ≤ℤ x)
  pub to : (y : ℤ) × IsOpenTo s i y × (x ≤ℤ y)

-- so for each subject, where one of them has one value alone
pub record IsInHullAt (s : Trail) (i : ℕ) (v : ℤ) (j : ℕ) (x : ℤ) : Type 0 where
  pub inside : IsInHull s j x
  pub fixed : j ≡ i → x ≡ v

-- which values a subject may have
abbrev pub Ranges : Type 1
Ranges = ℕ → ℤ → Type 0

-- the ranges admit what a kind asks, where any one subject has either of its ends for its value
abbrev pub IsUnexcludedAtEnds : (Ranges → Type 0) → Trail → List ℕ → Type 0
IsUnexcludedAtEnds MayHold s subjects = All (λ i. (v : ℤ) → IsEndNow s i v → MayHold (IsInHullAt s i v)) subjects

-- some product of such factors is at most a value of the target, and some is at least one
pub record MayMultiply (are_factors : List ℤ → Type 0) (is_target : ℤ → Type 0) : Type 0 where
  pub low : (ns : List ℤ) × (x : ℤ) × are_factors ns × is_target x × (product ns ≤ℤ x)
  pub high : (ns : List ℤ) × (x : ℤ) × are_factors ns × is_target x × (x ≤ℤ product ns)

-- a number, a divisor and a value of the target, which is a quotient or what is left
pub record IsDivision (is_number is_divisor is_target : ℤ → Type 0) : Type 0 where
  pub n : ℤ
  pub d : ℤ
  pub x : ℤ
  pub number : is_number n
  pub divisor : is_divisor d
  pub target : is_target x

-- by divisors of one sign, some quotient is at most a value of the target, and some is at least one
pub record MayDivide (is_number is_divisor is_target : ℤ → Type 0) : Type 0 where
  pub low : IsDivision is_number is_divisor is_target
  pub at_most : int_div low.n low.d ≤ℤ low.x
  pub high : IsDivision is_number is_divisor is_target
  pub at_least : high.x ≤ℤ int_div high.n high.d
  pub one_sign : pos 0 <ℤ (low.d *ℤ high.d)

-- of a number that is not negative something is left by a positive divisor
pub record IsUnsigned (n d x : ℤ) : Type 0 where
  pub number : pos 0 ≤ℤ n
  pub divisor : pos 1 ≤ℤ d
  pub target : pos 0 ≤ℤ x

-- By one quotient, some divisor's multiple with what is left is at most a number, and some is at least one. What is left
-- is less than the divisor of the second.
pub record MayLeaveUnsigned (is_number is_divisor is_target : ℤ → Type 0) : Type 0 where
  pub quotient : ℤ
  pub low : IsDivision is_number is_divisor is_target
  pub low_unsigned : IsUnsigned low.n low.d low.x
  pub at_most : ((quotient *ℤ low.d) +ℤ low.x) ≤ℤ low.n
  pub high : IsDivision is_number is_divisor is_target
  pub high_unsigned : IsUnsigned high.n high.d high.x
  pub at_least : high.n ≤ℤ ((quotient *ℤ high.d) +ℤ high.x)
  pub low_less : low.x <ℤ high.d
  pub high_less : high.x <ℤ high.d

-- what is asked of a number is asked of its opposite
abbrev pub IsOpposite : (ℤ → Type 0) → ℤ → Type 0
IsOpposite is x = is (neg_ℤ x)

-- What is left has the sign of what was divided, or is 0, and the divisor's sign does not matter.
abbrev pub MayLeaveBy : (ℤ → Type 0) → (ℤ → Type 0) → (ℤ → Type 0) → Type 0
MayLeaveBy is_number is_divisor is_target =
    MayLeaveUnsigned is_number is_divisor is_target
    ⊎ MayLeaveUnsigned (IsOpposite is_number) is_divisor (IsOpposite is_target)

abbrev pub MayLeave : (ℤ → Type 0) → (ℤ → Type 0) → (ℤ → Type 0) → Type 0
MayLeave is_number is_divisor is_target =
    MayLeaveBy is_number is_divisor is_target ⊎ MayLeaveBy is_number (IsOpposite is_divisor) is_target

abbrev pub MayMultiplyIn : ℕ → List ℕ → Ranges → Type 0
MayMultiplyIn target exprs may = MayMultiply (AllZip may exprs) (may target)

-- a quotient is of two members, and so is a remainder
abbrev pub MayDivideIn : ℕ → List ℕ → Ranges → Type 0
MayDivideIn target (n ∷ d ∷ []) may = MayDivide (may n) (may d) (may target)
MayDivideIn target exprs may = ⊥

abbrev pub MayLeaveIn : ℕ → List ℕ → Ranges → Type 0
MayLeaveIn target (n ∷ d ∷ []) may = MayLeave (may n) (may d) (may target)
MayLeaveIn target exprs may = ⊥

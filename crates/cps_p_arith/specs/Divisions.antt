-- Division that rounds towards zero.
use Rattle.std.specs.Prelude.{◌≡◌, ◌<◌, ℤ, pos, ◌+ℤ◌, ◌*ℤ◌, ◌≤ℤ◌, unsigned_abs}
use Rattle.cps_propagate.specs.Arithmetic.{MayLeaveUnsigned, MayLeaveBy}
use Rattle.cps_p_arith.specs.declared.range.Range.{Range}
use Rattle.cps_p_arith.specs.Ranges.{IsBetween}

-- a number is a quotient times a divisor and a rest, which is less than the divisor and has the number's sign, or is 0
pub record IsDivided (n d q r : ℤ) : Type 0 where
  pub sum : (q *ℤ d) +ℤ r ≡ n
  pub less : unsigned_abs r < unsigned_abs d
  pub up : pos 0 ≤ℤ n → pos 0 ≤ℤ r
  pub down : n ≤ℤ pos 0 → r ≤ℤ pos 0

-- of a number and some divisor between two the quotient is at most another
pub record ReachesDown (q n least most : ℤ) : Type 0 where
  pub d : ℤ
  pub divisor : IsBetween least most d
  pub at_most : (q' r : ℤ) → IsDivided n d q' r → q' ≤ℤ q

-- it is at least another
pub record ReachesUp (q n least most : ℤ) : Type 0 where
  pub d : ℤ
  pub divisor : IsBetween least most d
  pub at_least : (q' r : ℤ) → IsDivided n d q' r → q ≤ℤ q'

-- some quotient of a range's numbers by another's is at most the end of a range, and some at least its beginning
pub record HasQuotients (quotient number divisor : Range) : Type 0 where
  pub low : ReachesDown quotient.high number.low divisor.low divisor.high
  pub high : ReachesUp quotient.low number.high divisor.low divisor.high

-- something in a range may be left of a range's numbers that are not negative, by positive divisors of a range
abbrev pub LeavesUnsigned : Range → Range → Range → Type 0
LeavesUnsigned rest number divisor = MayLeaveUnsigned (IsBetween number.low number.high) (IsBetween divisor.low divisor.high)
    (IsBetween rest.low rest.high)

-- of these or of their opposites
abbrev pub LeavesSome : Range → Range → Range → Type 0
LeavesSome rest number divisor = MayLeaveBy (IsBetween number.low number.high) (IsBetween divisor.low divisor.high)
    (IsBetween rest.low rest.high)

-- The word that stands for a bound: its value plus 2 ^ 63, and 2 ^ 64 - 1 for `Infinite`. Words keep the order of
-- bounds.
use Rattle.std.specs.Prelude.{◌≡◌, ℕ, ◌+◌, ◌-◌, ◌≤◌, nat_lt, ◌==◌, ℤ, pos, negsuc, if◌then◌else◌, Option, Some, None}
use Rattle.cps_model.specs.declared.bound.Bound.{Bound}
use Rattle.cps_model.specs.declared.bound.Bound.TheVariants.{At, Infinite}

abbrev pub top : ℕ
top = 18446744073709551615

abbrev pub value_word : ℤ → ℕ
value_word (pos n) = n + 9223372036854775808
value_word (negsuc n) = 9223372036854775807 - n

abbrev pub word_of : Bound → ℕ
word_of (At v) = value_word v
word_of Infinite = top

-- 0 where there is no bound yet
abbrev pub raise_word : Option Bound → ℕ
raise_word None = 0
raise_word (Some b) = word_of b

abbrev pub value_of : ℕ → ℤ
value_of w = if nat_lt w 9223372036854775808 then negsuc (9223372036854775807 - w) else pos (w - 9223372036854775808)

abbrev pub bound_of : ℕ → Bound
bound_of w = if w == top then Infinite else At (value_of w)

-- a bound that a word can stand for
pub record HasWord (b : Bound) : Type 0 where
  pub fits : word_of b ≤ top
  pub back : bound_of (word_of b) ≡ b

abbrev pub HasWords : Option Bound → Type 0
HasWords None = Unit {0}
HasWords (Some b) = HasWord b

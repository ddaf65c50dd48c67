-- What values lie between.
use Rattle.std.specs.Prelude.{◌≡◌, ◌≤◌, ◌+◌, ◌^◌, ℤ, ◌≤ℤ◌, List, unsigned_abs}
use Rattle.std.specs.List.{AllZip}
use Rattle.cps_p_arith.specs.declared.ends.Ends.{Ends}
use Rattle.cps_p_arith.specs.declared.range.Range.{Range}

-- a number lies between two others
pub record IsBetween (low high v : ℤ) : Type 0 where
  pub from : low ≤ℤ v
  pub to : v ≤ℤ high

-- ends in order
abbrev pub IsOrdered : Ends → Type 0
IsOrdered e = e.low ≤ℤ e.high

abbrev pub IsIn : Ends → ℤ → Type 0
IsIn e v = IsBetween e.low e.high v

abbrev pub AreIn : List Ends → List ℤ → Type 0
AreIn es vs = AllZip IsIn es vs

-- two numbers are the same one
pub record IsBoth (low high v : ℤ) : Type 0 where
  pub from : low ≡ v
  pub to : high ≡ v

abbrev pub IsAt : Ends → ℤ → Type 0
IsAt e v = IsBoth e.low e.high v

abbrev pub AreAt : List Ends → List ℤ → Type 0
AreAt es vs = AllZip IsAt es vs

-- ends of which the products of two are numbers of 128 bits
pub record IsSmall (r : Range) : Type 0 where
  pub low : unsigned_abs r.low ≤ 2 ^ 63 + 8
  pub high : unsigned_abs r.high ≤ 2 ^ 63 + 8

-- What a strategy takes and decides, in terms of the values that its subjects may have.
use Rattle.std.specs.Prelude.{ℕ, zero, suc, ◌-◌, ◌/◌, ◌<◌, ◌≡◌, ◌↔◌, ◌⊎◌, ℤ, pos, neg_ℤ, ◌+ℤ◌, ◌≤ℤ◌, ◌<ℤ◌, true, int_le, if◌then◌else◌, Option, Some, None, List, [], ◌∷◌, ◌++◌, length, All, slice_index, slice_index_or}
use Rattle.std.specs.List.{Contains, flat_map, range_with_len}
use Rattle.cps_model.specs.declared.steering.Choose.{Choose}
use Rattle.cps_model.specs.declared.steering.Choose.TheVariants.{First, LowestMin, HighestMax, MinDomainSize, MaxDomainSize}
use Rattle.cps_model.specs.declared.steering.Select.{Select}
use Rattle.cps_model.specs.declared.steering.Select.TheVariants.{MinValue, MaxValue, LowerHalf, UpperHalf, MedianValue}
use Rattle.cps_domain.specs.Window.{width}
use Rattle.cps_domain.specs.Division.{IsFloor}
use Rattle.cps_literal.specs.declared.atom.Atom.{Atom}
use Rattle.cps_literal.specs.declared.atom.Op.TheVariants.{Le, Ge, Eq}
use Rattle.cps_instance.specs.declared.steering.Steering.{Steering}
use Rattle.cps_trail.specs.Trail.{Trail, admits}
use Rattle.cps_branch.specs.declared.strategy.Ranked.{Ranked}
use Rattle.cps_branch.specs.Fixed.{IsFixed, AreFixed}
use Rattle.cps_branch.specs.Choice.{TakesLeast, IsFirstOpen}

-- a subject may have a value
abbrev pub Admits : Trail → ℕ → ℤ → Type 0
Admits s i x = admits s.first s.entries i x ≡ true

pub record IsLeast (s : Trail) (i : ℕ) (v : ℤ) : Type 0 where
  pub value : Admits s i v
  pub least : (x : ℤ) → Admits s i x → v ≤ℤ x

pub record IsGreatestValue (s : Trail) (i : ℕ) (v : ℤ) : Type 0 where
  pub value : Admits s i v
  pub greatest : (x : ℤ) → Admits s i x → x ≤ℤ v

-- numbers that rise, from above a number on
abbrev pub IsAscending : ℤ → List ℤ → Type 0
IsAscending low [] = Unit {0}
IsAscending low (x ∷ xs) = (low <ℤ x) × IsAscending x xs

-- the values that a subject may have, in rising order
pub record AreValuesOf (s : Trail) (i : ℕ) (values : List ℤ) : Type 0 where
  pub low : ℤ
  pub rising : IsAscending low values
  pub each : (x : ℤ) → Admits s i x ↔ Contains values x

-- how many values a subject may have
pub record HasSize (s : Trail) (i n : ℕ) : Type 0 where
  pub values : List ℤ
  pub are : AreValuesOf s i values
  pub count : length values ≡ n

-- a middle between the least and the greatest value, rounded down
pub record IsMiddle (s : Trail) (i : ℕ) (m : ℤ) : Type 0 where
  pub low : ℤ
  pub high : ℤ
  pub is_low : IsLeast s i low
  pub is_high : IsGreatestValue s i high
  pub floor : IsFloor (low +ℤ high) (pos 2) m

-- of the values in rising order, numbered from 0, the one at half of the last number
pub record IsMedian (s : Trail) (i : ℕ) (v : ℤ) : Type 0 where
  pub values : List ℤ
  pub are : AreValuesOf s i values
  pub at : slice_index_or values ((length values - 1) / 2) (pos 0) ≡ v

-- By what a strategy compares subjects, of which the one with the least number is taken: by nothing, the least value,
-- the greatest value (the greater the better), or the number of values, the less or the greater the better.
abbrev pub IsRank : Choose → Trail → ℕ → ℤ → Type 0
IsRank First s i r = r ≡ pos 0
IsRank LowestMin s i r = IsLeast s i r
IsRank HighestMax s i r = (v : ℤ) × (IsGreatestValue s i v × (r ≡ neg_ℤ v))
IsRank MinDomainSize s i r = (n : ℕ) × (HasSize s i n × (r ≡ pos n))
IsRank MaxDomainSize s i r = (n : ℕ) × (HasSize s i n × (r ≡ neg_ℤ (pos n)))

-- a subject that is not fixed has a rank above another's, or no less than it
abbrev pub IsRankedAbove : Choose → Trail → ℤ → ℕ → Type 0
IsRankedAbove choose s rank i = (IsFixed s i → ⊥) → (r : ℤ) × (IsRank choose s i r × (rank <ℤ r))

abbrev pub IsRankedFrom : Choose → Trail → ℤ → ℕ → Type 0
IsRankedFrom choose s rank i = (IsFixed s i → ⊥) → (r : ℤ) × (IsRank choose s i r × (rank ≤ℤ r))

-- Of the listed subjects that are not fixed this one has the least rank, and is the first that has it.
pub record IsTaken (choose : Choose) (s : Trail) (subjects : List ℕ) (i : ℕ) (rank : ℤ) : Type 0 where
  pub before : List ℕ
  pub after : List ℕ
  pub listed : subjects ≡ before ++ i ∷ after
  pub open_now : IsFixed s i → ⊥
  pub rank_is : IsRank choose s i rank
  pub earlier : All (IsRankedAbove choose s rank) before
  pub later : All (IsRankedFrom choose s rank) after

-- of two subjects the one of lesser rank, the first of two of the same
abbrev pub better_of : Ranked → Ranked → Ranked
better_of best next = if int_le best.rank next.rank then best else next

-- what is decided of a subject that was taken
abbrev pub Selects : Select → Trail → Atom → Type 0
Selects MinValue s t = (t.op ≡ Le) × IsLeast s t.subject t.value
Selects MaxValue s t = (t.op ≡ Ge) × IsGreatestValue s t.subject t.value
Selects LowerHalf s t = (t.op ≡ Le) × IsMiddle s t.subject t.value
Selects UpperHalf s t = (t.op ≡ Ge) × ((m : ℤ) × (IsMiddle s t.subject m × (t.value ≡ m +ℤ pos 1)))
Selects MedianValue s t = (t.op ≡ Eq) × IsMedian s t.subject t.value

-- a strategy takes the atom's subject, and decides the atom
pub record DecidesBy (strategy : Steering) (s : Trail) (t : Atom) : Type 0 where
  pub rank : ℤ
  pub taken : IsTaken strategy.choose s strategy.subjects t.subject rank
  pub selected : Selects strategy.select s t

-- all subjects of a strategy are fixed
abbrev pub IsDone : Trail → Steering → Type 0
IsDone s strategy = All (IsFixed s) strategy.subjects

-- the first strategy that has a subject which is not fixed decides the atom
pub record FollowsStrategies (strategies : List Steering) (s : Trail) (t : Atom) : Type 0 where
  pub before : List Steering
  pub strategy : Steering
  pub after : List Steering
  pub listed : strategies ≡ before ++ strategy ∷ after
  pub done : All (IsDone s) before
  pub decides : DecidesBy strategy s t

-- The strategies in order, then the first of the n variables that is not fixed, at its least value; where all variables
-- are fixed there is nothing to choose.
abbrev pub ChoosesSteered : List Steering → ℕ → Trail → Option Atom → Type 0
ChoosesSteered strategies n s None = AreFixed s n
ChoosesSteered strategies n s (Some t) = FollowsStrategies strategies s t
    ⊎ (All (IsDone s) strategies × (TakesLeast s t × IsFirstOpen n s t.subject))

-- the subjects of strategies are among the first so many
abbrev pub AreWithin : ℕ → List Steering → Type 0
AreWithin n strategies = All (λ g. All (λ i. i < n) g.subjects) strategies

-- strategies, and over how many variables and subjects they are, the variables first
pub record Planned : Type 0 where
  pub strategies : List Steering
  pub variables : ℕ
  pub subjects : ℕ

-- the subjects that strategies list, one after another
abbrev pub listed : List Steering → List ℕ
listed strategies = flat_map (λ (g : Steering). g.subjects) strategies

-- the order in which subjects are decided: those that the strategies list, and then the variables
abbrev pub order_of : List Steering → ℕ → List ℕ
order_of strategies n = listed strategies ++ range_with_len 0 n

abbrev pub order_in : Planned → List ℕ
order_in p = order_of p.strategies p.variables

-- at this place of an order stands the first subject that is not fixed
pub record IsOpenPlace (s : Trail) (order : List ℕ) (place : ℕ) : Type 0 where
  pub within : place < length order
  pub before : (i : ℕ) → i < place → IsFixed s (slice_index order i)
  pub open_now : IsFixed s (slice_index order place) → ⊥

-- the numbers of intervals, one by one
unfoldable pub run_from : ℤ → ℕ → List ℤ
run_from low zero = []
run_from low (suc n) = low ∷ run_from (low +ℤ pos 1) n

abbrev pub values_of : List (ℤ × ℤ) → List ℤ
values_of [] = []
values_of (p ∷ ps) = run_from p.0 (width p) ++ values_of ps

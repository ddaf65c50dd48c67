-- What events do to a level at a time and a list of values.
use Rattle.std.specs.Prelude.{◌≡◌, ◌⊎◌, ℕ, ◌<◌, ◌≤◌, ◌^◌, ℤ, pos, neg_ℤ, ◌+ℤ◌, ◌≤ℤ◌, ◌<ℤ◌, unsigned_abs, int_le, Bool, true, false, ◌&&◌, if◌then◌else◌, Option, Some, None, List, [], ◌∷◌, length, take, All, Contains}
use Rattle.cps_literal.specs.declared.atom.Atom.{Atom}
use Rattle.cps_literal.specs.Truth.{value_at, atom_holds}
use Rattle.cps_instance.specs.declared.task.Body.{Body}
use Rattle.cps_instance.specs.declared.task.Body.TheVariants.{Reservoir}
use Rattle.cps_trail.specs.Trail.{Trail, Domains}
use Rattle.cps_propagate.specs.Now.{IsOpenTo, IsFixedNow, AreOpen}
use Rattle.cps_propagate.specs.Strength.{MayBeTrue, MayBeFalse, MayHaveActed, MayHaveRested, IsShareNow}
use Rattle.cps_p_cumulative.specs.declared.tank.Tank.{Tank}
use Rattle.cps_p_cumulative.specs.declared.tank.Move.{Move}
use Rattle.cps_p_cumulative.specs.declared.tank.Side.{Side}
use Rattle.cps_p_cumulative.specs.declared.tank.Side.TheVariants.{Over, Under}

-- a number as it counts towards a side: towards the greatest level, or towards the least
abbrev pub toward : Side → ℤ → ℤ
toward Over x = x
toward Under x = neg_ℤ x

-- whether an event takes place
abbrev pub is_active : List ℤ → Option Atom → Bool
is_active xs None = true
is_active xs (Some u) = atom_holds xs u

-- whether it has taken place by a time
abbrev pub has_acted : List ℤ → ℤ → Move → Bool
has_acted xs t m = is_active xs m.active && int_le (value_at xs m.time) t

-- what it has added by then towards a side
abbrev pub share_of : Side → List ℤ → ℤ → Move → ℤ
share_of side xs t m = if has_acted xs t m then toward side (value_at xs m.change) else pos 0

-- and all events
abbrev pub total : Side → List ℤ → ℤ → List Move → ℤ
total side xs t [] = pos 0
total side xs t (m ∷ ms) = share_of side xs t m +ℤ total side xs t ms

-- events without atoms, and with atoms
abbrev pub free_moves : List ℕ → List ℕ → List Move
free_moves (t ∷ ts) (c ∷ cs) = record { time = t; change = c; active = None } ∷ free_moves ts cs
free_moves [] cs = []
free_moves (t ∷ ts) [] = []

abbrev pub tied_moves : List ℕ → List ℕ → List Atom → List Move
tied_moves (t ∷ ts) (c ∷ cs) (u ∷ us) = record { time = t; change = c; active = Some u } ∷ tied_moves ts cs us
tied_moves [] cs us = []
tied_moves (t ∷ ts) [] us = []
tied_moves (t ∷ ts) (c ∷ cs) [] = []

abbrev pub all_moves : List ℕ → List ℕ → List Atom → List Move
all_moves ts cs [] = free_moves ts cs
all_moves ts cs (u ∷ us) = tied_moves ts cs (u ∷ us)

abbrev pub moves_of : Tank → List Move
moves_of k = all_moves k.times k.changes k.active

-- what a tank asks
abbrev pub tank_body : Tank → Body
tank_body k = Reservoir k.min k.max k.times k.changes k.active

-- how far the level may go to a side
abbrev pub limit : Tank → Side → ℤ
limit k Over = k.max
limit k Under = neg_ℤ k.min

-- the subjects of an event
abbrev pub active_subjects : Option Atom → List ℕ
active_subjects None = []
active_subjects (Some u) = u.subject ∷ []

abbrev pub move_subjects : Move → List ℕ
move_subjects m = m.time ∷ m.change ∷ active_subjects m.active

-- an event, and the events of a tank, over the subjects of a store
abbrev pub IsMoveOf : Domains → Move → Type 0
IsMoveOf first m = All (λ i. i < length first) (move_subjects m)

abbrev pub IsTankOf : Domains → Tank → Type 0
IsTankOf first k = All (IsMoveOf first) (moves_of k)

-- what an event may have added towards a side by a time, and events together, each by itself
abbrev pub IsShareToward : Side → Trail → ℤ → Move → ℤ → Type 0
IsShareToward side s t m v = (x : ℤ) × IsShareNow s t m.time m.change m.active x × (v ≡ toward side x)

abbrev pub MayAddUp : Side → Trail → ℤ → List Move → ℤ → Type 0
MayAddUp side s t [] v = v ≡ pos 0
MayAddUp side s t (m ∷ ms) v = (own : ℤ) × (rest : ℤ) × IsShareToward side s t m own × MayAddUp side s t ms rest
    × (v ≡ own +ℤ rest)

-- from one time to another nothing becomes sure of an event: it is due by the one, or may be due after the other
abbrev pub StaysFrom : Trail → ℤ → ℤ → Move → Type 0
StaysFrom s t u m = ((x : ℤ) → IsOpenTo s m.time x → x ≤ℤ t) ⊎ ((x : ℤ) × IsOpenTo s m.time x × (u <ℤ x))

-- What an event adds towards a side at values that a store leaves, or more, and no less than it adds where its subjects
-- are fixed. It may have added just that, by that time and by a later one as long as nothing becomes sure of it.
pub record IsShare (s : Trail) (t : ℤ) (side : Side) (m : Move) (v : ℤ) : Type 0 where
  pub sound : (xs : List ℤ) → AreOpen s xs (move_subjects m) → v ≤ℤ share_of side xs t m
  pub exact : (xs : List ℤ) → AreOpen s xs (move_subjects m) → All (IsFixedNow s) (move_subjects m)
      → share_of side xs t m ≤ℤ v
  pub may : (u : ℤ) → t ≤ℤ u → StaysFrom s t u m → IsShareToward side s u m v
  pub near : unsigned_abs v ≤ 2 ^ 63

-- the values that a list has for the subjects of events are ones that they may have now, and those subjects are fixed
abbrev pub AreMovesOpen : Trail → List ℤ → List Move → Type 0
AreMovesOpen s xs ms = All (λ m. AreOpen s xs (move_subjects m)) ms

abbrev pub AreMovesFixed : Trail → List Move → Type 0
AreMovesFixed s ms = All (λ m. All (IsFixedNow s) (move_subjects m)) ms

-- and all events
pub record IsLevel (s : Trail) (t : ℤ) (side : Side) (ms : List Move) (v : ℤ) : Type 0 where
  pub sound : (xs : List ℤ) → AreMovesOpen s xs ms → v ≤ℤ total side xs t ms
  pub exact : (xs : List ℤ) → AreMovesOpen s xs ms → AreMovesFixed s ms → total side xs t ms ≤ℤ v
  pub may : (u : ℤ) → t ≤ℤ u → All (StaysFrom s t u) ms → MayAddUp side s u ms v

-- an event may take place, or may not
abbrev pub MayBeActive : Trail → Option Atom → Bool → Type 0
MayBeActive s active true = MayBeTrue s active
MayBeActive s active false = MayBeFalse s active

-- it may have taken place by a time, or may not have
abbrev pub MayBe : Trail → ℤ → Move → Bool → Type 0
MayBe s t m true = MayHaveActed s t m.time m.active
MayBe s t m false = MayHaveRested s t m.time m.active

-- whether an event has taken place by a time, wherever its subjects may be now
pub record IsMoveSure (s : Trail) (t : ℤ) (m : Move) (v : Bool) : Type 0 where
  pub sure : (xs : List ℤ) → AreOpen s xs (move_subjects m) → has_acted xs t m ≡ v
  pub may : MayBe s t m v

-- and where they are fixed
pub record IsSureFixed (s : Trail) (t : ℤ) (m : Move) (v : Bool) : Type 0 where
  pub sure : (xs : List ℤ) → AreOpen s xs (move_subjects m) → All (IsFixedNow s) (move_subjects m)
      → has_acted xs t m ≡ v
  pub may : MayBe s t m v

-- the least that an event's change counts towards a side
pub record IsLeastToward (s : Trail) (side : Side) (i : ℕ) (v : ℤ) : Type 0 where
  pub least : (x : ℤ) → IsOpenTo s i x → v ≤ℤ toward side x
  pub reached : (x : ℤ) → IsOpenTo s i x → IsFixedNow s i → toward side x ≤ℤ v
  pub attained : (x : ℤ) × IsOpenTo s i x × (v ≡ toward side x)
  pub near : unsigned_abs v ≤ 2 ^ 63

-- 0 lies between the limits
pub record AllowsZero (k : Tank) : Type 0 where
  pub low : k.min ≤ℤ pos 0
  pub high : pos 0 ≤ℤ k.max

-- at a time what events add towards a side at least is not past the limit
pub record HasRoomAt (s : Trail) (k : Tank) (side : Side) (t : ℤ) : Type 0 where
  pub sum : ℤ
  pub level : IsLevel s t side (moves_of k) sum
  pub below : sum ≤ℤ limit k side

-- so at the last time at which an event may take place
pub record HasRoomAfter (s : Trail) (k : Tank) (side : Side) (m : Move) : Type 0 where
  pub late : ℤ
  pub reached : IsOpenTo s m.time late
  pub last : (x : ℤ) → IsOpenTo s m.time x → x ≤ℤ late
  pub room : HasRoomAt s k side late

-- and after each of the first events
pub record HasRoomTo (s : Trail) (k : Tank) (n : ℕ) : Type 0 where
  pub over : All (HasRoomAfter s k Over) (take n (moves_of k))
  pub under : All (HasRoomAfter s k Under) (take n (moves_of k))

-- an atom says that an event's change counts so much towards a side, or more
pub record IsTowardBound (side : Side) (i : ℕ) (v : ℤ) (u : Atom) : Type 0 where
  pub subject : u.subject ≡ i
  pub gives : (xs : List ℤ) → atom_holds xs u ≡ true → v ≤ℤ toward side (value_at xs i)

-- an atom says that an event has not taken place by a time
pub record IsRest (first : Domains) (t : ℤ) (m : Move) (u : Atom) : Type 0 where
  pub subject : u.subject < length first
  pub own : Contains (move_subjects m) u.subject
  pub gives : (xs : List ℤ) → atom_holds xs u ≡ true → has_acted xs t m ≡ false

-- an event adds so much towards a side by a time, or more
pub record IsAdded (side : Side) (t : ℤ) (m : Move) (v : ℤ) (xs : List ℤ) : Type 0 where
  pub added : v ≤ℤ share_of side xs t m

-- and events together
pub record AreAdded (side : Side) (t : ℤ) (ms : List Move) (v : ℤ) (xs : List ℤ) : Type 0 where
  pub added : v ≤ℤ total side xs t ms

-- a body is that of a tank
abbrev pub IsReservoirBody : Body → Type 0
IsReservoirBody (Reservoir min max times changes active) = Unit {0}
IsReservoirBody body = ⊥

-- Boxes, each with a span in two directions, and what a store leaves to them.
use Rattle.std.specs.Prelude.{◌≡◌, ◌<◌, ◌≤ℤ◌, ◌<ℤ◌, ◌⊎◌, ℕ, ℤ, Bool, true, false, IsTrue, List, length, slice_index_or}
use Rattle.cps_literal.specs.declared.atom.Atom.{Atom}
use Rattle.cps_literal.specs.Truth.{atom_holds}
use Rattle.cps_instance.specs.declared.task.Span.{Span}
use Rattle.cps_instance.specs.declared.task.Body.{Body}
use Rattle.cps_instance.specs.declared.task.Body.TheVariants.{NoOverlap2d}
use Rattle.cps_instance.specs.Tasks.{HoldsBody}
use Rattle.cps_trail.specs.Trail.{Trail, IsAdmitted}
use Rattle.cps_rule.specs.declared.rule.Narrowing.{Narrowing}
use Rattle.cps_rule.specs.Rules.{IsImpossible}
use Rattle.cps_p_span.specs.declared.pairs.Pair.{Pair}
use Rattle.cps_p_span.specs.declared.seen.Seen.{Seen}
use Rattle.cps_p_boxes.specs.declared.pairs.Direction.{Direction}
use Rattle.cps_p_span.specs.Citing.{AreTrueNow, GivesMore}
use Rattle.cps_p_span.specs.Spans.{is_present, IsBefore, AreKnown, AreSeen, IsPair, IsSmallAtom, IsPairSettled, pair_of_places, no_seen}

-- whether a body asks that boxes do not overlap
abbrev pub is_no_overlap_2d : Body → Bool
is_no_overlap_2d (NoOverlap2d x y) = true
is_no_overlap_2d body = false

-- of each span of a direction something was seen
abbrev pub IsKnown : Direction → Type 0
IsKnown v = AreKnown v.spans v.seen.items

-- in a store the spans of a direction are as they were seen
abbrev pub IsDirection : Trail → Direction → Type 0
IsDirection s v = AreSeen s v.spans v.seen.items

-- two places in each of two lists
pub record AreBoxes (ps qs : List Span) (pair : Pair) : Type 0 where
  pub along : IsPair (length ps) pair
  pub across : IsPair (length qs) pair

-- two spans are present
pub record ArePresent (xs : List ℤ) (ps : List Span) (pair : Pair) (d : Span) : Type 0 where
  pub before : is_present xs (slice_index_or ps pair.before d) ≡ true
  pub after : is_present xs (slice_index_or ps pair.after d) ≡ true

-- one of two spans comes before the other
abbrev pub AreSpansApart : List ℤ → List Span → Pair → Span → Type 0
AreSpansApart xs ps pair d = IsBefore xs (slice_index_or ps pair.before d) (slice_index_or ps pair.after d)
    ⊎ IsBefore xs (slice_index_or ps pair.after d) (slice_index_or ps pair.before d)

-- each two present boxes are apart in one of two directions
abbrev pub AreDisjoint : List ℤ → List Span → List Span → Type 0
AreDisjoint xs ps qs = (pair : Pair) (d : Span) → AreBoxes ps qs pair → ArePresent xs ps pair d
    → ArePresent xs qs pair d → AreSpansApart xs ps pair d ⊎ AreSpansApart xs qs pair d

-- they are wherever a body holds
abbrev pub KeepsApart : Body → List Span → List Span → Type 0
KeepsApart b ps qs = (xs : List ℤ) → HoldsBody b xs → AreDisjoint xs ps qs

-- in each store in which two directions are as they were seen: where each atom of an older list is given by such a
-- body, each of a newer one is
abbrev pub AddsGiven : Direction → Direction → List Narrowing → List Narrowing → Type 0
AddsGiven v w old new = (s : Trail) → IsDirection s v → IsDirection s w → (b : Body) → KeepsApart b v.spans w.spans
    → GivesMore b s old new

-- in each no such body can hold
abbrev pub LeavesNoBody : Direction → Direction → Type 0
LeavesNoBody v w = (s : Trail) → IsDirection s v → IsDirection s w → (b : Body) → KeepsApart b v.spans w.spans
    → IsImpossible b s

-- where boxes are apart, one comes before another in the first direction
abbrev pub OrdersBoxes : List ℤ → List Span → List Span → Pair → Type 0
OrdersBoxes xs ps qs pair = (d : Span) → AreDisjoint xs ps qs
    → IsBefore xs (slice_index_or ps pair.before d) (slice_index_or ps pair.after d)

-- at values that a store leaves, a box is not present where boxes are apart
abbrev pub LacksBox : Trail → List Span → List Span → ℕ → Type 0
LacksBox s ps qs k = (xs : List ℤ) (d : Span) → IsAdmitted s.first s.entries xs → AreDisjoint xs ps qs
    → is_present xs (slice_index_or ps k d) ≡ true → is_present xs (slice_index_or qs k d) ≡ true → ⊥

-- so in each store in which two directions are as they were seen
abbrev pub IsBoxAbsent : Direction → Direction → ℕ → Type 0
IsBoxAbsent v w k = (s : Trail) → IsDirection s v → IsDirection s w → LacksBox s v.spans w.spans k

-- of two spans the first cannot come after the second
abbrev pub IsLate : List Seen → Pair → Type 0
IsLate vs pair = (slice_index_or vs pair.before no_seen).times.start_high <ℤ
    (slice_index_or vs pair.after no_seen).times.end_low

-- it can, as far as their ends tell
abbrev pub IsOpenOrder : List Seen → Pair → Type 0
IsOpenOrder vs pair = (slice_index_or vs pair.after no_seen).times.end_low ≤ℤ
    (slice_index_or vs pair.before no_seen).times.start_high

-- neither can come first
pub record Overlap (vs : List Seen) (pair : Pair) : Type 0 where
  pub forth : (slice_index_or vs pair.after no_seen).times.start_high <ℤ
      (slice_index_or vs pair.before no_seen).times.end_low
  pub back : (slice_index_or vs pair.before no_seen).times.start_high <ℤ
      (slice_index_or vs pair.after no_seen).times.end_low

-- one can
abbrev pub MayBeApart : List Seen → Pair → Type 0
MayBeApart vs pair = ((slice_index_or vs pair.before no_seen).times.end_low ≤ℤ
    (slice_index_or vs pair.after no_seen).times.start_high)
    ⊎ ((slice_index_or vs pair.after no_seen).times.end_low ≤ℤ (slice_index_or vs pair.before no_seen).times.start_high)

-- both spans of a box are surely present
pub record IsSureBox (vs ws : List Seen) (k : ℕ) : Type 0 where
  pub along : IsTrue (slice_index_or vs k no_seen).presence.sure
  pub across : IsTrue (slice_index_or ws k no_seen).presence.sure

-- two boxes may be apart in a direction, or one is not surely present
abbrev pub AreBoxesAllowed : List Seen → List Seen → Pair → Type 0
AreBoxesAllowed vs ws pair = IsSureBox vs ws pair.before → IsSureBox vs ws pair.after
    → MayBeApart vs pair ⊎ MayBeApart ws pair

-- one box with each of the first n
abbrev pub AllowsBoxes : List Seen → List Seen → ℕ → ℕ → Type 0
AllowsBoxes vs ws j n = (i : ℕ) → i < n → AreBoxesAllowed vs ws (pair_of_places j i)

-- each two of the first n
abbrev pub AreAllAllowed : List Seen → List Seen → ℕ → Type 0
AreAllAllowed vs ws n = (j : ℕ) → j < n → AllowsBoxes vs ws j j

-- where an atom is true, at values that the store leaves, a span is present
pub record MakesPresent (s : Trail) (ps : List Span) (k : ℕ) (u : Atom) : Type 0 where
  pub subject : u.subject < length s.first
  pub small : IsSmallAtom u
  pub present : (xs : List ℤ) (d : Span) → IsAdmitted s.first s.entries xs → atom_holds xs u ≡ true
      → is_present xs (slice_index_or ps k d) ≡ true

-- so for both spans of a box
pub record MakesBoxPresent (s : Trail) (ps qs : List Span) (k : ℕ) (u : Atom) : Type 0 where
  pub along : MakesPresent s ps k u
  pub across : MakesPresent s qs k u

-- in each store in which a direction is as it was seen, an atom makes a span present
abbrev pub IsLastAtom : Direction → ℕ → Atom → Type 0
IsLastAtom v k u = (s : Trail) → IsDirection s v → MakesPresent s v.spans k u

-- so for both directions of a box
abbrev pub IsLastOfBox : Direction → Direction → ℕ → Atom → Type 0
IsLastOfBox v w k u = (s : Trail) → IsDirection s v → IsDirection s w → MakesBoxPresent s v.spans w.spans k u

-- so many boxes have both spans
pub record IsCount (n m count : ℕ) : Type 0 where
  pub along : (k : ℕ) → k < count → k < n
  pub across : (k : ℕ) → k < count → k < m
  pub all : (k : ℕ) → k < n → k < m → k < count

-- in each store in which two directions are as they were seen: where each target of a newer list is true, so is each of
-- an older one, and something holds
abbrev pub Settles : Direction → Direction → (Trail → Type 0) → List Narrowing → List Narrowing → Type 0
Settles v w P old new = (s : Trail) → IsDirection s v → IsDirection s w → AreTrueNow s new → AreTrueNow s old × P s

-- of two boxes that are surely present, each comes after the other in a direction where it must
abbrev pub IsSettledAlong : Direction → Direction → Pair → Trail → Type 0
IsSettledAlong v w pair s = IsSureBox v.seen.items w.seen.items pair.before
    → IsSureBox v.seen.items w.seen.items pair.after → IsPairSettled s v.spans v.seen.items pair

-- so in each direction across which they overlap
pub record AreBoxesSettled (v w : Direction) (pair : Pair) (s : Trail) : Type 0 where
  pub along : Overlap w.seen.items pair → IsSettledAlong v w pair s
  pub across : Overlap v.seen.items pair → IsSettledAlong w v pair s

-- so one box and each of the first n
abbrev pub AreFirstSettled : Direction → Direction → ℕ → ℕ → Trail → Type 0
AreFirstSettled v w j n s = (i : ℕ) → i < n → AreBoxesSettled v w (pair_of_places j i) s

-- so each two of the first n
abbrev pub AreAllSettled : Direction → Direction → ℕ → Trail → Type 0
AreAllSettled v w n s = (j : ℕ) → j < n → AreFirstSettled v w j j s

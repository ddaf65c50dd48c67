-- Spans at a list of values, and what a store leaves to them.
use Rattle.std.specs.Prelude.{pos, ◌≡◌, ◌≢◌, ◌<◌, ◌≤ℤ◌, ◌<ℤ◌, ◌+ℤ◌, ◌-ℤ◌, ◌⊎◌, ℕ, ℤ, Bool, true, false, IsTrue, Option, Some, None, List, length, slice_index_or, All}
use Rattle.std.specs.List.{AllZip, list_all}
use Rattle.cps_literal.specs.declared.atom.Atom.{Atom}
use Rattle.cps_literal.specs.Truth.{value_at, atom_holds}
use Rattle.cps_instance.specs.declared.task.Span.{Span}
use Rattle.cps_instance.specs.declared.task.Body.{Body}
use Rattle.cps_instance.specs.declared.task.Body.TheVariants.{NoOverlap}
use Rattle.cps_instance.specs.Tasks.{HoldsBody}
use Rattle.cps_model.specs.Scheduling.{IsNoOverlap}
use Rattle.cps_instance.specs.Parts.{span_runs}
use Rattle.cps_instance.specs.Terms.{Domains}
use Rattle.cps_instance.specs.Fitting.{IsLiteral}
use Rattle.cps_trail.specs.Trail.{Trail, IsTrueNow, IsAdmitted, IsInside}
use Rattle.cps_rule.specs.declared.rule.Narrowing.{Narrowing}
use Rattle.cps_rule.specs.Rules.{IsImpossible}
use Rattle.cps_propagate.specs.Now.{IsOpenTo, IsFixedNow, IsKnownNow}
use Rattle.cps_propagate.specs.Strength.{MayEndAt, IsInOrder, FollowsWhereForced}
use Rattle.cps_p_span.specs.declared.seen.Times.{Times}
use Rattle.cps_p_span.specs.declared.seen.Presence.{Presence}
use Rattle.cps_p_span.specs.declared.seen.Seen.{Seen}
use Rattle.cps_p_span.specs.declared.pairs.Pair.{Pair}
use Rattle.cps_p_span.specs.Citing.{AreTrueNow, GivesMore}

-- whether a body asks that spans do not overlap
abbrev pub is_no_overlap : Body → Bool
is_no_overlap (NoOverlap spans) = true
is_no_overlap body = false

abbrev pub start_at : List ℤ → Span → ℤ
start_at xs p = value_at xs p.start

-- where a span ends that starts at one value, and whose end has another
abbrev pub end_of : Option ℤ → ℤ → ℤ → ℤ
end_of (Some far) x y = x +ℤ far
end_of None x y = y

-- how much later than the value of which its bounds speak it ends
abbrev pub lead : Option ℤ → ℤ
lead (Some far) = far
lead None = pos 0

abbrev pub end_at : List ℤ → Span → ℤ
end_at xs p = end_of p.length (value_at xs p.start) (value_at xs p.end)

abbrev pub is_present : List ℤ → Span → Bool
is_present xs p = list_all (atom_holds xs) p.presence

-- of two spans the first ends before the second starts, or as it starts
abbrev pub IsBefore : List ℤ → Span → Span → Type 0
IsBefore xs p q = end_at xs p ≤ℤ start_at xs q

-- a span's subjects have domains, and its presence atoms stand for literals
pub record IsSpan (first : Domains) (p : Span) : Type 0 where
  pub start : p.start < length first
  pub end : p.end < length first
  pub presence : All (λ u. u.subject < length first) p.presence
  pub literals : All (IsLiteral first) p.presence

abbrev pub AreSpans : Domains → List Span → Type 0
AreSpans first ps = All (IsSpan first) ps

-- each end of such times is one that an atom about the span can name
pub record AreTimesInside (p : Span) (v : Times) : Type 0 where
  pub start_low : IsInside v.start_low
  pub start_high : IsInside v.start_high
  pub end_low : IsInside (v.end_low -ℤ lead p.length)
  pub end_high : IsInside (v.end_high -ℤ lead p.length)

-- between which times a span starts and ends
pub record AreTimes (s : Trail) (p : Span) (v : Times) : Type 0 where
  pub start_low : (x : ℤ) → IsOpenTo s p.start x → v.start_low ≤ℤ x
  pub start_high : (x : ℤ) → IsOpenTo s p.start x → x ≤ℤ v.start_high
  pub end_low : (x y : ℤ) → IsOpenTo s p.start x → IsOpenTo s p.end y → v.end_low ≤ℤ end_of p.length x y
  pub end_high : (x y : ℤ) → IsOpenTo s p.start x → IsOpenTo s p.end y → end_of p.length x y ≤ℤ v.end_high
  pub start_fixed : IsFixedNow s p.start → (x : ℤ) → IsOpenTo s p.start x → v.start_high ≤ℤ x
  pub end_fixed : IsFixedNow s p.start → IsFixedNow s p.end → (x y : ℤ) → IsOpenTo s p.start x → IsOpenTo s p.end y
      → end_of p.length x y ≤ℤ v.end_low
  pub start_last : IsOpenTo s p.start v.start_high
  pub end_first : MayEndAt s p.start p.end p.length v.end_low
  pub end_most : (e : ℤ) → MayEndAt s p.start p.end p.length e → e ≤ℤ v.end_high
  pub inside : AreTimesInside p v

-- Whether a span is surely present, and which of its atoms alone may be false, where there is one. That is an atom which
-- alone is open while all others are true.
pub record IsPresence (s : Trail) (us : List Atom) (v : Presence) : Type 0 where
  pub sure : IsTrue v.sure → All (IsTrueNow s) us
  pub unsure : v.sure ≡ false → All (IsTrueNow s) us → ⊥
  pub others : v.last < length us → (k : ℕ) (d : Atom) → k < length us → k ≢ v.last
      → IsTrueNow s (slice_index_or us k d)
  pub only : (k : ℕ) (d : Atom) → k < length us → (IsKnownNow s (slice_index_or us k d) → ⊥)
      → ((j : ℕ) (e : Atom) → j < length us → j ≢ k → IsTrueNow s (slice_index_or us j e)) → v.last ≡ k

pub record IsSpanSeen (s : Trail) (p : Span) (v : Seen) : Type 0 where
  pub times : AreTimes s p v.times
  pub presence : IsPresence s p.presence v.presence

-- an atom about a span's start or end says something of its times
pub record SaysOfTimes (p : Span) (u : Atom) (P : List ℤ → Type 0) : Type 0 where
  pub place : (u.subject ≡ p.start) ⊎ (u.subject ≡ p.end)
  pub says : (xs : List ℤ) → atom_holds xs u ≡ true → P xs
  pub said : (xs : List ℤ) → P xs → atom_holds xs u ≡ true

-- where an atom is true now, a span starts at a time or later
abbrev pub KeepsStartFrom : Span → ℤ → Atom → Type 0
KeepsStartFrom p time u = (s : Trail) → IsTrueNow s u → (x : ℤ) → IsOpenTo s p.start x → time ≤ℤ x

-- it starts at a time or earlier
abbrev pub KeepsStartUpTo : Span → ℤ → Atom → Type 0
KeepsStartUpTo p time u = (s : Trail) → IsTrueNow s u → (x : ℤ) → IsOpenTo s p.start x → x ≤ℤ time

-- it ends at a time or earlier
abbrev pub KeepsEndUpTo : Span → ℤ → Atom → Type 0
KeepsEndUpTo p time u = (s : Trail) → IsTrueNow s u → (e : ℤ) → MayEndAt s p.start p.end p.length e → e ≤ℤ time

-- two places of a list
pub record IsPair (n : ℕ) (pair : Pair) : Type 0 where
  pub before : pair.before < n
  pub after : pair.after < n
  pub apart : pair.before ≢ pair.after

-- an atom that compares with 0 or 1
pub record IsSmallAtom (u : Atom) : Type 0 where
  pub low : pos 0 ≤ℤ u.value
  pub high : u.value ≤ℤ pos 1

-- of each span something was seen, and its presence atoms are such
pub record AreKnown (ps : List Span) (vs : List Seen) : Type 0 where
  pub each : length ps ≡ length vs
  pub small : All (λ p. All IsSmallAtom p.presence) ps

-- in a store spans have domains, and what was seen of them is so
pub record AreSeen (s : Trail) (ps : List Span) (vs : List Seen) : Type 0 where
  pub spans : AreSpans s.first ps
  pub seen : AllZip (IsSpanSeen s) ps vs

abbrev pub no_seen : Seen
no_seen = record {
  times = record { start_low = pos 0; start_high = pos 0; end_low = pos 0; end_high = pos 0 };
  presence = record {
    sure = false;
    last = 0;
  };
}

-- of two spans the first can come first, as far as their ends tell
abbrev pub IsOrderOpen : List Seen → Pair → Type 0
IsOrderOpen vs pair = (slice_index_or vs pair.before no_seen).times.end_low ≤ℤ
    (slice_index_or vs pair.after no_seen).times.start_high

abbrev pub pair_of_places : ℕ → ℕ → Pair
pair_of_places j i = record { before = j; after = i }

-- wherever a body holds at values that a store leaves, one span comes before another
abbrev pub Orders : Body → Trail → List Span → Pair → Type 0
Orders b s ps pair = (xs : List ℤ) (d : Span) → IsAdmitted s.first s.entries xs → HoldsBody b xs
    → IsBefore xs (slice_index_or ps pair.before d) (slice_index_or ps pair.after d)

-- in each store in which spans are as they were seen: where a body orders two of them and gives each atom of an older
-- list, it gives each of a newer one
abbrev pub AddsOrdered : List Span → List Seen → Pair → List Narrowing → List Narrowing → Type 0
AddsOrdered ps vs pair old new = (s : Trail) → AreSeen s ps vs → (b : Body) → Orders b s ps pair → GivesMore b s old new

-- in each, where each target of the newer list is true, so is each of the older one, and two spans are in order of which
-- the first may precede the second
abbrev pub SettlesOrder : List Span → List Seen → Pair → List Narrowing → List Narrowing → Type 0
SettlesOrder ps vs pair old new = (s : Trail) → AreSeen s ps vs → AreTrueNow s new
    → AreTrueNow s old × (IsOrderOpen vs pair → (d : Span)
    → IsInOrder s (slice_index_or ps pair.before d) (slice_index_or ps pair.after d))

-- each of two spans that are surely present comes after the other where it must
abbrev pub IsPairSettled : Trail → List Span → List Seen → Pair → Type 0
IsPairSettled s ps vs pair = IsTrue (slice_index_or vs pair.before no_seen).presence.sure
    → IsTrue (slice_index_or vs pair.after no_seen).presence.sure → (d : Span)
    → FollowsWhereForced s (slice_index_or ps pair.before d) (slice_index_or ps pair.after d)
    × FollowsWhereForced s (slice_index_or ps pair.after d) (slice_index_or ps pair.before d)

-- in each store in which the spans are as they were seen: where each target of the newer list is true, so is each of
-- the older one, and a pair is settled
abbrev pub SettlesPair : List Span → List Seen → Pair → List Narrowing → List Narrowing → Type 0
SettlesPair ps vs pair old new = (s : Trail) → AreSeen s ps vs → AreTrueNow s new
    → AreTrueNow s old × IsPairSettled s ps vs pair

-- so is each pair of one span and the first n
abbrev pub AreFirstSettled : Trail → List Span → List Seen → ℕ → ℕ → Type 0
AreFirstSettled s ps vs j n = (i : ℕ) → i < n → IsPairSettled s ps vs (pair_of_places j i)

abbrev pub SettlesFirst : List Span → List Seen → ℕ → ℕ → List Narrowing → List Narrowing → Type 0
SettlesFirst ps vs j n old new = (s : Trail) → AreSeen s ps vs → AreTrueNow s new
    → AreTrueNow s old × AreFirstSettled s ps vs j n

-- so is each pair of the first n
abbrev pub ArePairsSettled : Trail → List Span → List Seen → ℕ → Type 0
ArePairsSettled s ps vs n = (j : ℕ) → j < n → AreFirstSettled s ps vs j j

abbrev pub SettlesPairs : List Span → List Seen → ℕ → List Narrowing → List Narrowing → Type 0
SettlesPairs ps vs n old new = (s : Trail) → AreSeen s ps vs → AreTrueNow s new
    → AreTrueNow s old × ArePairsSettled s ps vs n

-- in each, where each atom of an older list is given by that the spans do not overlap, each of a newer one is
abbrev pub AddsApart : List Span → List Seen → List Narrowing → List Narrowing → Type 0
AddsApart ps vs old new = (s : Trail) → AreSeen s ps vs → GivesMore (NoOverlap ps) s old new

-- in each they overlap
abbrev pub LeavesNoOrder : List Span → List Seen → Type 0
LeavesNoOrder ps vs = (s : Trail) → AreSeen s ps vs → IsImpossible (NoOverlap ps) s

-- at values that a store leaves, a span is not present where the spans do not overlap
abbrev pub LacksSpan : Trail → List Span → ℕ → Type 0
LacksSpan s ps k = (xs : List ℤ) (d : Span) → IsAdmitted s.first s.entries xs → IsNoOverlap (span_runs xs ps)
    → is_present xs (slice_index_or ps k d) ≡ true → ⊥

-- so in each store in which the spans are as they were seen
abbrev pub IsAbsent : List Span → List Seen → ℕ → Type 0
IsAbsent ps vs k = (s : Trail) → AreSeen s ps vs → LacksSpan s ps k

-- two spans may be one before the other, as far as their ends tell, or one is not surely present
abbrev pub IsAllowed : Seen → Seen → Type 0
IsAllowed v w = IsTrue v.presence.sure → IsTrue w.presence.sure
    → (v.times.end_low ≤ℤ w.times.start_high) ⊎ (w.times.end_low ≤ℤ v.times.start_high)

-- so are each two of the first n spans
abbrev pub AreAllowed : List Seen → ℕ → Type 0
AreAllowed vs n = (i j : ℕ) → i < j → j < n → IsAllowed (slice_index_or vs j no_seen) (slice_index_or vs i no_seen)

-- and one with each of the first n
abbrev pub AllowsFirst : List Seen → ℕ → ℕ → Type 0
AllowsFirst vs j n = (i : ℕ) → i < n → IsAllowed (slice_index_or vs j no_seen) (slice_index_or vs i no_seen)

-- at a list of values at which the spans do not overlap, one comes before another
abbrev pub OrdersAt : List ℤ → List Span → Pair → Type 0
OrdersAt xs ps pair = (d : Span) → IsNoOverlap (span_runs xs ps)
    → IsBefore xs (slice_index_or ps pair.before d) (slice_index_or ps pair.after d)

-- at a list of values each of two spans ends after the other starts
abbrev pub ClashesAt : List ℤ → List Span → Pair → Type 0
ClashesAt xs ps pair = (d : Span)
    → (start_at xs (slice_index_or ps pair.before d) <ℤ end_at xs (slice_index_or ps pair.after d))
    × (start_at xs (slice_index_or ps pair.after d) <ℤ end_at xs (slice_index_or ps pair.before d))

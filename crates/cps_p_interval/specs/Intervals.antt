-- An interval's bounds.
use Rattle.std.specs.Prelude.{◌≡◌, ◌<◌, ◌≤ℤ◌, ◌<ℤ◌, ◌+ℤ◌, ◌-ℤ◌, ◌⊎◌, ℕ, ℤ, pos, List, length, Bool, true, false, Contains}
use Rattle.std.specs.Int.{int_max}
use Rattle.cps_model.specs.Scheduling.{IsInterval}
use Rattle.cps_literal.specs.declared.atom.Atom.{Atom}
use Rattle.cps_literal.specs.Truth.{value_at, atom_holds}
use Rattle.cps_instance.specs.declared.task.Body.{Body}
use Rattle.cps_instance.specs.declared.task.Body.TheVariants.{Interval}
use Rattle.cps_instance.specs.Tasks.{subjects_of_body}
use Rattle.cps_trail.specs.Trail.{Trail, IsInside}
use Rattle.cps_rule.specs.declared.rule.Narrowing.{Narrowing}
use Rattle.cps_rule.specs.Rules.{IsImpossible}
use Rattle.cps_p_interval.specs.declared.interval.Places.{Places}
use Rattle.cps_p_interval.specs.declared.interval.Hulls.{Hulls}
use Rattle.cps_p_interval.specs.declared.interval.Support.{Support}
use Rattle.cps_p_span.specs.declared.hull.Hull.{Hull}
use Rattle.cps_p_span.specs.Citing.{AreTrueNow, GivesMore}
use Rattle.cps_p_span.specs.Hulls.{IsHullNow}

abbrev pub body_of : Places → Body
body_of p = Interval p.start p.end p.size

-- whether a body asks for an interval
abbrev pub is_interval : Body → Bool
is_interval (Interval start end size) = true
is_interval body = false

-- an atom is about one of the three subjects
abbrev pub IsAboutPlace : Places → Atom → Type 0
IsAboutPlace p u = Contains (subjects_of_body (body_of p)) u.subject

-- the subjects are below a number
pub record ArePlaces (n : ℕ) (p : Places) : Type 0 where
  pub start : p.start < n
  pub end : p.end < n
  pub size : p.size < n

pub record AreHullsMeasured (s : Trail) (p : Places) (h : Hulls) : Type 0 where
  pub start : IsHullNow s p.start h.start
  pub end : IsHullNow s p.end h.end
  pub size : IsHullNow s p.size h.size

-- all ends are such as a subject may have
pub record AreHullsInside (h : Hulls) : Type 0 where
  pub start_low : IsInside h.start.low
  pub start_high : IsInside h.start.high
  pub end_low : IsInside h.end.low
  pub end_high : IsInside h.end.high
  pub size_low : IsInside h.size.low
  pub size_high : IsInside h.size.high

-- in each store in which these are the ends of an interval's subjects there is no interval
abbrev pub LeavesNoInterval : Hulls → Type 0
LeavesNoInterval h = (s : Trail) (p : Places) → ArePlaces (length s.first) p → AreHullsMeasured s p h
    → IsImpossible (body_of p) s

-- in each store in which these are the ends of the subjects: where each atom of an older list is given by the
-- interval, each of a newer one is
abbrev pub AddsBounds : Places → Hulls → List Narrowing → List Narrowing → Type 0
AddsBounds p h old new = (s : Trail) → ArePlaces (length s.first) p → AreHullsMeasured s p h
    → GivesMore (body_of p) s old new

-- what the ends of the two others leave to each, where a size is 0 or more
abbrev pub least_size : Hulls → ℤ
least_size h = int_max (pos 0) (h.end.low -ℤ h.start.high)

abbrev pub most_size : Hulls → ℤ
most_size h = h.end.high -ℤ h.start.low

abbrev pub least_end : Hulls → ℤ
least_end h = h.start.low +ℤ int_max (pos 0) h.size.low

abbrev pub most_end : Hulls → ℤ
most_end h = h.start.high +ℤ h.size.high

abbrev pub least_start : Hulls → ℤ
least_start h = h.end.low -ℤ h.size.high

abbrev pub most_start : Hulls → ℤ
most_start h = h.end.high -ℤ int_max (pos 0) h.size.low

-- the ends leave room for an interval
pub record FitsInterval (h : Hulls) : Type 0 where
  pub some : pos 0 ≤ℤ h.size.high
  pub not_before : least_end h ≤ℤ h.end.high
  pub not_after : h.end.low ≤ℤ most_end h

-- which of three tests tells that the ends leave no room, by its number
abbrev pub IsWithoutRoom : Hulls → ℤ → Type 0
IsWithoutRoom h k = ((k ≡ pos 0) × (h.size.high <ℤ pos 0)) ⊎ (((k ≡ pos 1) × (h.end.high <ℤ least_end h))
    ⊎ ((k ≡ pos 2) × (most_end h <ℤ h.end.low)))

-- ends lie between two numbers, as far as these can stand in a fact
pub record AreEndsWithin (h : Hull) (least most : ℤ) : Type 0 where
  pub low : IsInside least → least ≤ℤ h.low
  pub high : IsInside most → h.high ≤ℤ most

-- in each store in which these are a subject's ends: where each target of a newer list is true, so is each of an older
-- one, and the ends lie between two numbers
abbrev pub KeepsWithin : ℕ → Hull → ℤ → ℤ → List Narrowing → List Narrowing → Type 0
KeepsWithin i h least most old new = (s : Trail) → IsHullNow s i h → AreTrueNow s new
    → AreTrueNow s old × AreEndsWithin h least most

-- so do the ends of all three
pub record AreAllWithin (h : Hulls) : Type 0 where
  pub size : AreEndsWithin h.size (least_size h) (most_size h)
  pub end : AreEndsWithin h.end (least_end h) (most_end h)
  pub start : AreEndsWithin h.start (least_start h) (most_start h)

-- values make an interval
abbrev pub AreInterval : Places → List ℤ → Type 0
AreInterval p xs = IsInterval (value_at xs p.start) (value_at xs p.end) (value_at xs p.size)

-- two atoms about its subjects give a third
pub record IsSupport (n : ℕ) (p : Places) (target : Atom) (u : Support) : Type 0 where
  pub one : u.one.subject < n
  pub other : u.other.subject < n
  pub own_one : IsAboutPlace p u.one
  pub own_other : IsAboutPlace p u.other
  pub gives : (xs : List ℤ) → atom_holds xs u.one ≡ true → atom_holds xs u.other ≡ true → AreInterval p xs
      → atom_holds xs target ≡ true

-- three atoms about its subjects that leave no interval
pub record IsOpposition (n : ℕ) (p : Places) (u : Support) (last : Atom) : Type 0 where
  pub one : u.one.subject < n
  pub other : u.other.subject < n
  pub third : last.subject < n
  pub own_one : IsAboutPlace p u.one
  pub own_other : IsAboutPlace p u.other
  pub own_third : IsAboutPlace p last
  pub excludes : (xs : List ℤ) → atom_holds xs u.one ≡ true → atom_holds xs u.other ≡ true → atom_holds xs last ≡ true
      → AreInterval p xs → ⊥

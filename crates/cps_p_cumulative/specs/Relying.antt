-- What facts of a store give beside an atom that is assumed.
use Rattle.std.specs.Prelude.{◌≡◌, ℕ, ◌<◌, ℤ, pos, ◌+ℤ◌, ◌-ℤ◌, ◌≤ℤ◌, ◌<ℤ◌, unsigned_abs, true, Option, Some, None, List, length, drop, All, Contains}
use Rattle.std.specs.List.{list_all}
use Rattle.cps_literal.specs.declared.atom.Atom.{Atom}
use Rattle.cps_literal.specs.declared.atom.Op.TheVariants.{Ge}
use Rattle.cps_literal.specs.Truth.{value_at, atom_holds}
use Rattle.cps_instance.specs.declared.task.Span.{Span}
use Rattle.cps_instance.specs.Parts.{span_end}
use Rattle.cps_trail.specs.Trail.{Trail, IsWithin, IsInside}
use Rattle.cps_propagate.specs.Reasons.{SpeaksOf}
use Rattle.cps_rule.specs.Rules.{AreFacts, AllTrueAt}
use Rattle.cps_p_cumulative.specs.declared.charge.Claim.{Claim}
use Rattle.cps_p_cumulative.specs.declared.charge.Stay.{Stay}
use Rattle.cps_p_cumulative.specs.Running.{IsTimeOf, energy_of, energies}

-- A list of facts grew, by some about these subjects, by what gives a thing where the assumed atom is true too.
pub record Relies (s : Trail) (assumed : Atom) (among : List ℕ) (P : List ℤ → Type 0) (old new : List Atom) : Type 0 where
  pub facts : AreFacts s new
  pub kept : (xs : List ℤ) → AllTrueAt xs new → AllTrueAt xs old
  pub about : (is : List ℕ) → All (Contains is) among → SpeaksOf is old → SpeaksOf is new
  pub gives : (xs : List ℤ) → IsWithin s.first xs → AllTrueAt xs new → atom_holds xs assumed ≡ true → P xs

-- an atom that says that a subject is at least a number
pub record IsBound (i : ℕ) (v : ℤ) (u : Atom) : Type 0 where
  pub is : u ≡ record { subject = i; op = Ge; value = v }
  pub inside : IsInside v

-- an atom on a span's start or end that says that the span runs after a time, wherever it starts
pub record IsLater (t : ℤ) (p : Span) (u : Atom) : Type 0 where
  pub subject : IsTimeOf p u.subject
  pub inside : IsInside u.value
  pub after : (xs : List ℤ) → atom_holds xs u ≡ true → t <ℤ span_end xs p.start p.end p.length

-- a span's length is so many times, or where it has none, it is so many from the one time up to after the other
abbrev pub IsLong : Option ℤ → Stay → Type 0
IsLong None stay = (stay.latest +ℤ stay.ticks) ≤ℤ (stay.after +ℤ pos 1)
IsLong (Some far) stay = stay.ticks ≤ℤ far

-- A span of a length, or of none that is known, runs at so many of the times from t on, w of them, where it starts by
-- one time and ends after another.
pub record IsStay (t w : ℤ) (far : Option ℤ) (stay : Stay) : Type 0 where
  pub some : pos 0 ≤ℤ stay.ticks
  pub within : stay.ticks ≤ℤ w
  pub left : (t +ℤ stay.ticks) ≤ℤ (stay.after +ℤ pos 1)
  pub right : (stay.latest +ℤ stay.ticks) ≤ℤ (t +ℤ w)
  pub long : IsLong far stay

-- and it is claimed to use something at each of them
pub record IsClaim (t w : ℤ) (far : Option ℤ) (claim : Claim) : Type 0 where
  pub stay : IsStay t w far claim.stay
  pub some : pos 0 ≤ℤ claim.demand

-- a span is present, starts by one time and ends after another
pub record IsActiveBetween (latest after : ℤ) (p : Span) (xs : List ℤ) : Type 0 where
  pub present : list_all (atom_holds xs) p.presence ≡ true
  pub started : value_at xs p.start ≤ℤ latest
  pub later : after <ℤ span_end xs p.start p.end p.length

-- a span uses of the times what was taken from what is left, or more
pub record IsEnergyTaken (t w : ℤ) (p : Span) (d : ℕ) (left after : ℤ) (xs : List ℤ) : Type 0 where
  pub used : (left -ℤ after) ≤ℤ energy_of xs t (unsigned_abs w) p d

-- what was taken of a need, and what the spans from a place on use of the times, is no more than all use
pub record IsCharged (t w : ℤ) (ps : List Span) (ds : List ℕ) (need : ℤ) (k : ℕ) (left : ℤ) (xs : List ℤ) : Type 0 where
  pub used : ((need -ℤ left) +ℤ energies xs t (unsigned_abs w) (drop k ps) (drop k ds)) ≤ℤ energies xs t
      (unsigned_abs w) ps ds

-- Facts by which positions have values in an interval, and those by which an atom follows from one that its subject is
-- not in.
use Rattle.std.specs.Prelude.{◌≡◌, ℕ, ◌≤◌, ◌==◌, ℤ, pos, ◌≤ℤ◌, ◌+ℤ◌, ◌-ℤ◌, ◌⊎◌, Bool, true, false, not, ◌&&◌, Option, Some, None, List, Contains}
use Rattle.std.specs.List.{count_by}
use Rattle.cps_literal.specs.declared.atom.Atom.{Atom}
use Rattle.cps_literal.specs.declared.atom.Op.{Op}
use Rattle.cps_literal.specs.declared.atom.Op.TheVariants.{Le, Ge, Ne}
use Rattle.cps_literal.specs.Truth.{meets, value_at, atom_holds}
use Rattle.cps_trail.specs.Trail.{Trail, IsTrueNow, IsInside}
use Rattle.cps_propagate.specs.Reasons.{SpeaksOf}
use Rattle.cps_rule.specs.Rules.{AreFacts, AllTrueAt}
use Rattle.cps_p_alldiff.specs.declared.interval.Interval.{Interval}
use Rattle.cps_p_alldiff.specs.Intervals.{lies_in}

-- whether a subject is another than a given one
abbrev pub is_other : Option ℕ → ℕ → Bool
is_other None i = true
is_other (Some given) i = not (given == i)

-- whether a subject that is another has its value in an interval
abbrev pub is_held : List ℤ → Option ℕ → Interval → ℕ → Bool
is_held xs apart h i = is_other apart i && lies_in h (value_at xs i)

-- with the facts, which are about these subjects, so many positions of others have their values in an interval
pub record AreHolding (s : Trail) (is : List ℕ) (apart : Option ℕ) (h : Interval) (n : ℕ)
    (us : List Atom) : Type 0 where
  pub facts : AreFacts s us
  pub speaks : SpeaksOf is us
  pub held : (xs : List ℤ) → AllTrueAt xs us → n ≤ count_by (is_held xs apart h) is

-- where the bound holds and the atom does not, the value lies in the interval
pub record IsNearBound (t : Atom) (h : Interval) (near : Atom) : Type 0 where
  pub subject : near.subject ≡ t.subject
  pub inside : IsInside near.value
  pub bounds : (x : ℤ) → meets near.op near.value x ≡ true → meets t.op t.value x ≡ false → lies_in h x ≡ true

-- an atom says that its subject is past an end of an interval, or no more than that
abbrev pub IsPastEnd : Atom → Interval → Type 0
IsPastEnd t h = ((t.op ≡ Ge) × (t.value ≤ℤ (h.high +ℤ pos 1))) ⊎ ((t.op ≡ Le) × ((h.low -ℤ pos 1) ≤ℤ t.value))

-- the other end of the interval, by the side on which the atom is true
abbrev pub other_end : Op → Interval → ℤ
other_end Ge h = h.low
other_end op h = h.high

-- that the subject is not past that one
abbrev pub inner_bound : Atom → Interval → Atom
inner_bound t h = record { subject = t.subject; op = t.op; value = other_end t.op h }

-- an atom takes a number of the interval away, or says that its subject is past an end of it, which it was not past on
-- the other side
abbrev pub IsBeside : Trail → Atom → Interval → Type 0
IsBeside s t h = ((t.op ≡ Ne) × (lies_in h t.value ≡ true)) ⊎ (IsPastEnd t h × IsTrueNow s (inner_bound t h))

-- the same of the facts, which gain at most one
pub record IsNear (s : Trail) (t : Atom) (h : Interval) (old new : List Atom) : Type 0 where
  pub facts : AreFacts s old → AreFacts s new
  pub kept : (xs : List ℤ) → AllTrueAt xs new → AllTrueAt xs old
  pub about : (is : List ℕ) → Contains is t.subject → SpeaksOf is old → SpeaksOf is new
  pub near : (xs : List ℤ) → AllTrueAt xs new → atom_holds xs t ≡ false → lies_in h (value_at xs t.subject) ≡ true

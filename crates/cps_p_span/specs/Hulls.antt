-- The ends of what a store leaves to a subject.
use Rattle.std.specs.Prelude.{◌≡◌, ◌≤ℤ◌, ◌⊎◌, ℕ, ℤ, true, Option, Some, None, List, [], ◌∷◌, ◌++◌}
use Rattle.cps_literal.specs.declared.atom.Atom.{Atom}
use Rattle.cps_literal.specs.Truth.{meets}
use Rattle.cps_trail.specs.Trail.{Trail, IsInside}
use Rattle.cps_propagate.specs.Now.{IsOpenTo}
use Rattle.cps_rule.specs.declared.rule.Hint.{Hint}
use Rattle.cps_rule.specs.declared.rule.Narrowing.{Narrowing}
use Rattle.cps_p_span.specs.declared.hull.Hull.{Hull}

-- the least and the greatest value that a subject may have now
pub record IsHullNow (s : Trail) (i : ℕ) (h : Hull) : Type 0 where
  pub low : IsOpenTo s i h.low
  pub high : IsOpenTo s i h.high
  pub least : (x : ℤ) → IsOpenTo s i x → h.low ≤ℤ x
  pub greatest : (x : ℤ) → IsOpenTo s i x → x ≤ℤ h.high
  pub low_inside : IsInside h.low
  pub high_inside : IsInside h.high

-- an atom is true at each value between two ends
abbrev pub IsTrueWithin : Hull → Atom → Type 0
IsTrueWithin h u = (x : ℤ) → h.low ≤ℤ x → x ≤ℤ h.high → meets u.op u.value x ≡ true

-- A list of narrowings gained one of this target, or stayed. It stayed only where the target is true between two ends
-- or too far off to stand in a fact.
abbrev pub OffersAtom : Hull → Atom → List Narrowing → List Narrowing → Type 0
OffersAtom h target old new = ((new ≡ old) × (IsInside target.value → IsTrueWithin h target))
    ⊎ ((hint : Hint) × (new ≡ old ++ record { target = target; hint = hint } ∷ []))

-- the same, where there is a target
abbrev pub Proposes : Option Atom → List Narrowing → List Narrowing → Type 0
Proposes None old new = new ≡ old
Proposes (Some target) old new = (hint : Hint) × (new ≡ old ++ record { target = target; hint = hint } ∷ [])

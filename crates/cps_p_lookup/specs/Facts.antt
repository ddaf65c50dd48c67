-- Facts of a store, and what a body and they exclude.
use Rattle.std.specs.Prelude.{◌≡◌, ℤ, Bool, true, List, [], ◌∷◌}
use Rattle.cps_literal.specs.declared.atom.Atom.{Atom}
use Rattle.cps_literal.specs.Truth.{atom_holds}
use Rattle.cps_trail.specs.Trail.{Trail}
use Rattle.cps_rule.specs.Rules.{AllTrueAt}
use Rattle.cps_rule.specs.Facts.{Grows}

-- two facts more
pub record AddsBoth (s : Trail) (u v : Atom) (old new : List Atom) : Type 0 where
  pub grows : Grows s (u.subject ∷ v.subject ∷ []) old new
  pub first : (xs : List ℤ) → AllTrueAt xs new → atom_holds xs u ≡ true
  pub second : (xs : List ℤ) → AllTrueAt xs new → atom_holds xs v ≡ true

-- a fact more, where it is needed
pub record AddsWhere (s : Trail) (needed : Bool) (u : Atom) (old new : List Atom) : Type 0 where
  pub grows : Grows s (u.subject ∷ []) old new
  pub holds : needed ≡ true → (xs : List ℤ) → AllTrueAt xs new → atom_holds xs u ≡ true

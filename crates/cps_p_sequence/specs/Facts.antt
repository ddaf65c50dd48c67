-- Facts of a store, and what a body and they exclude.
use Rattle.std.specs.Prelude.{◌≡◌, ℤ, true, Option, Some, None}
use Rattle.cps_literal.specs.declared.atom.Op.{Op}
use Rattle.cps_literal.specs.Truth.{meets}

-- a number meets a bound, where there is one
abbrev pub MeetsBound : Op → Option ℤ → ℤ → Type 0
MeetsBound op None x = Unit {0}
MeetsBound op (Some v) x = meets op v x ≡ true

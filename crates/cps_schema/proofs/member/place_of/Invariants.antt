use Rattle.std.specs.Prelude.{◌≡◌, drop}
use Rattle.cps_schema.specs.Inputs.{names_of}
use Rattle.cps_schema.specs.Members.{place_from}
use Rattle.cps_schema.proofs.member.place_of.Given as goal

abbrev pub invariant-loop-i : goal.invariant-loop-i
invariant-loop-i l = place_from l.i (names_of (drop l.i l.names)) l.name ≡ place_from 0 (names_of l.names) l.name

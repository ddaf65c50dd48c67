use Rattle.std.specs.Prelude.{◌≡◌, drop}
use Rattle.cps_schema.specs.Gathered.{line_place}
use Rattle.cps_schema.proofs.gather.place_of.Given as goal

abbrev pub invariant-loop-i : goal.invariant-loop-i
invariant-loop-i l = line_place l.i (drop l.i l.slots) l.name ≡ line_place 0 l.slots l.name

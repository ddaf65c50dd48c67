use Rattle.std.specs.Prelude.{◌≡◌, take, map}
use Rattle.cps_schema.specs.declared.gather.Line.{Line}
use Rattle.cps_schema.specs.Gathered.{nothing, held, lines_of}
use Rattle.cps_schema.proofs.gather.empty_slots.Given as goal

abbrev pub invariant-loop-line : goal.invariant-loop-line
invariant-loop-line l =
    (lines_of l.slots.items ≡ take l.line-index l.lines)
    × (map held l.slots.items ≡ map (λ (line : Line). nothing) (take l.line-index l.lines))

-- Each line has a slot, in which nothing was read.
use Rattle.std.proofs.Common.{map, refl, ap, ◌∙◌}
use Rattle.std.proofs.lemmas.List.{take_all}
use Rattle.cps_schema.specs.declared.gather.Line.{Line}
use Rattle.cps_schema.specs.Gathered.{nothing}
use Rattle.cps_schema.proofs.Gatherings.{slots_more}
use Rattle.cps_schema.proofs.gather.empty_slots.Goals as goal

pub loop-line-preserved : goal.loop-line-preserved
loop-line-preserved c =
    slots_more c.loop-line.slots.items c.push.new.self.items _ c.args.lines.now c.loop-line.line-index _ c.loop-line-test.true refl
    (rw (c.new.ensures.items, c.new-in-loop-line.ensures.items, c.new-in-loop-line-2.ensures.items, c.new-in-loop-line-3.ensures.items) refl) c.in_ok-push.ensures.items c.loop-line.invariant

pub returns-clause-lines : goal.returns-clause-lines
returns-clause-lines c = c.loop-line.invariant.0 ∙ take_all c.loop-line.line-index c.args.lines.now c.loop-line-test.false

pub returns-clause-empty : goal.returns-clause-empty
returns-clause-empty c = c.loop-line.invariant.1 ∙ ap (map (λ (line : Line). nothing)) (take_all c.loop-line.line-index c.args.lines.now c.loop-line-test.false)

use Rattle.cps_instance.specs.declared.task.Body.TheVariants.{NoOverlap}
use Rattle.cps_p_span.specs.Citing.{GivesMore}
use Rattle.cps_p_nooverlap.proofs.sets.push_all.Given as goal

abbrev pub invariant-loop-turn : goal.invariant-loop-turn
invariant-loop-turn l = GivesMore (NoOverlap l.spans) l.past l.fn.found.items l.found.items

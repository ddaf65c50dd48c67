use Rattle.cps_instance.specs.declared.task.Body.TheVariants.{NoOverlap}
use Rattle.cps_p_span.specs.Citing.{GivesMore}
use Rattle.cps_p_nooverlap.proofs.sets.push_first.Given as goal

abbrev pub invariant-loop-rule : goal.invariant-loop-rule
invariant-loop-rule l = GivesMore (NoOverlap l.spans) l.past l.fn.found.items l.found.items

use Rattle.cps_instance.specs.Problem.{variable_count}
use Rattle.cps_search.proofs.LogSums.{KeptSoFar}
use Rattle.cps_search.proofs.log_items.expression_of.Given as goal

abbrev pub invariant-loop-term : goal.invariant-loop-term
invariant-loop-term l = KeptSoFar l.instance.domains (variable_count l.instance) l.term-items l.term-index l.vars.items l.coeffs.items

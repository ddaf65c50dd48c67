use Rattle.cps_rule.specs.Facts.{Grows}
use Rattle.cps_p_lookup.proofs.denials.push_chosen.Given as goal

abbrev pub invariant-loop-choice : goal.invariant-loop-choice
invariant-loop-choice l = Grows l.past l.exprs l.initial.facts.items l.facts.items

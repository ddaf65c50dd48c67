use Rattle.std.proofs.Common.{sym, subst}
use Rattle.cps_instance.specs.declared.task.Body.{Body}
use Rattle.cps_enforce.specs.Tasks.{IsCostly}
use Rattle.cps_p_sequence.proofs.Tasks.{costly_automaton, whole}
use Rattle.cps_p_sequence.proofs.automaton.Automaton.of.Goals as goal

pub new-requires-2 : goal.new-requires-2
new-requires-2 c = subst (λ (b : Body). IsCostly b) (sym c.in_ok-rule.ensures) (costly_automaton c.args.task.now.body c.requires)

pub returns : goal.returns
returns c = whole c.args.task.now c.in_ok-propagator.propagator c.as_slice.result.now c.in_ok-rule.rule c.as_slice.ensures c.in_ok-rule.ensures c.in_ok-propagator.ensures

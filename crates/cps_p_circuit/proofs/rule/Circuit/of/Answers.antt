use Rattle.std.proofs.Common.{sym, subst}
use Rattle.cps_instance.specs.declared.task.Body.{Body}
use Rattle.cps_enforce.specs.Tasks.{IsCostly}
use Rattle.cps_p_circuit.proofs.Tasks.{costly, whole}
use Rattle.cps_p_circuit.proofs.rule.Circuit.of.Goals as goal

pub new-requires : goal.new-requires
new-requires c = subst (λ (b : Body). IsCostly b) (sym c.in_ok-rule.ensures) (costly c.args.task.now.body c.requires)

pub returns : goal.returns
returns c = whole c.args.task.now c.in_ok-propagator.propagator c.as_slice.result.now _ c.as_slice.ensures c.in_ok-rule.ensures c.in_ok-propagator.ensures

use Rattle.std.proofs.Common.{subst}
use Rattle.cps_instance.specs.declared.task.Task.{Task}
use Rattle.cps_literal.specs.declared.atom.Op.TheVariants.{Le, Ge}
use Rattle.cps_propagate.specs.Laws.{StaysAtRest}
use Rattle.cps_p_bool.proofs.RestingTasks.{IsSpared-same, StaysAtRest-fall, StaysAtRest-rise}
use Rattle.cps_p_bool.proofs.boolean.BooleanPropagator.wakes_on.Goals as goal

pub returns-clause-rise : goal.returns-clause-rise
returns-clause-rise c = λ is.
    let b = c.self.inside in
    subst (λ (t : Task). StaysAtRest t c.args.subject Le) c.self.view_is
    (StaysAtRest-fall b.enforcement.items b.atoms.items b.sure.items b.live.items b.kind b.rest c.args.subject c.self.invariant
    (IsSpared-same b.enforcement.items b.atoms.items b.live.items _ _ _ b.rest c.args.subject _ c.as_slice.ensures.value c.as_slice-2.ensures.value c.as_slice-3.ensures.value (c.wake_of_literals.ensures.rise is)))

pub returns-clause-fall : goal.returns-clause-fall
returns-clause-fall c = λ is.
    let b = c.self.inside in
    subst (λ (t : Task). StaysAtRest t c.args.subject Ge) c.self.view_is
    (StaysAtRest-rise b.enforcement.items b.atoms.items b.sure.items b.live.items b.kind b.rest c.args.subject c.self.invariant
    (IsSpared-same b.enforcement.items b.atoms.items b.live.items _ _ _ b.rest c.args.subject _ c.as_slice.ensures.value c.as_slice-2.ensures.value c.as_slice-3.ensures.value (c.wake_of_literals.ensures.fall is)))

-- A run that is traced, without the number of the task that gave a conflict.
use Rattle.std.proofs.Common.{ap, subst, Ok}
use Rattle.cps_propagate.specs.declared.engine.Traced.{Traced}
use Rattle.cps_propagate.specs.Conflicts.{AnswersTraced}
use Rattle.cps_propagate.proofs.engine.Engine.run_from.Goals as goal

pub returns-in-Conflict-clause-answers : goal.returns-in-Conflict-clause-answers
returns-in-Conflict-clause-answers g c =
    let given = subst (λ (t : Traced). AnswersTraced c.args.self.now.tasks c.run_traced.new.store t) c.in-Conflict.is c.in_ok-run_traced.ensures.answers in
    record { number = c.in-Conflict.task; given = given }

pub returns-in-Settled-clause-at_rest : goal.returns-in-Settled-clause-at_rest
returns-in-Settled-clause-at_rest g c = λ _. c.in_ok-run_traced.ensures.at_rest (ap Ok c.in-Settled.is)

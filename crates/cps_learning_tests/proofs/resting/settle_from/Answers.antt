use Rattle.cps_trail.specs.declared.step.Step.TheVariants.{Settled}
use Rattle.cps_learning_tests.proofs.Settling.{IsBaseAtRest-settled, at_ok}
use Rattle.cps_learning_tests.proofs.resting.settle_from.Goals as goal

pub returns-clause-rest : goal.returns-clause-rest
returns-clause-rest c = λ done.
    let keeps = at_ok c.settle.result Settled done c.settle.ensures.keeps in
    let infers = at_ok c.settle.result Settled done c.settle.ensures.infers in
    IsBaseAtRest-settled c.args.base.now c.settle.new.self c.args.store.now c.settle.new.store c.args.from c.requires keeps infers (c.settle.ensures.settled done) (c.settle.ensures.in_step done)

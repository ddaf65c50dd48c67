-- The first listed is the one at the place.
use Rattle.std.proofs.Common.{sym, subst, get_or, pos}
use Rattle.cps_model.specs.declared.steering.Choose.{Choose}
use Rattle.cps_branch.specs.Strategies.{IsTaken}
use Rattle.cps_branch.proofs.StrategyChoices.{taken_listed}
use Rattle.cps_branch.proofs.strategy.taken.Goals as goal

pub returns-in-First : goal.returns-in-First
returns-in-First c =
    subst (λ (k : Choose). IsTaken k c.args.store.now c.args.subjects.now (get_or c.args.subjects.now c.args.from 0) (pos 0)) (sym c.in-First.is)
    (taken_listed c.args.store.now c.args.subjects.now c.args.from c.requires.from c.requires.before c.requires.open_there)

-- Activities that reach the limit are halved, and so they are small and not those that the clause bumped.
use Rattle.std.proofs.Common.{sym, subst}
use Rattle.cps_branch.specs.Activities.{AreSmall}
use Rattle.cps_branch.proofs.BumpedActivities.{halved_differs, small-halved}
use Rattle.cps_branch.proofs.bump.bump_all.Goals as goal

pub returns-then-reached-clause-small : goal.returns-then-reached-clause-small
returns-then-reached-clause-small c =
    subst AreSmall (sym c.halve.ensures) (small-halved c.args.clause.now c.args.activities.now c.bump-reached.new.activities c.requires.small c.bump-reached.ensures.gains)

pub returns-then-reached-clause-halved : goal.returns-then-reached-clause-halved
returns-then-reached-clause-halved c = λ _ gains.
    halved_differs c.args.clause.now c.args.activities.now c.bump-reached.new.activities c.halve.new.activities c.bump-reached.ensures.gains (c.bump-reached.ensures.reached.0 c.if-reached.true) c.halve.ensures gains

-- The atom is added where it is still to be, behind those that are left.
use Rattle.std.proofs.Common.{sym, subst}
use Rattle.cps_literal.specs.Normal.{Includes}
use Rattle.cps_literal.proofs.normal.include.Goals as goal

pub returns-in_ok-push-clause-includes : goal.returns-in_ok-push-clause-includes
returns-in_ok-push-clause-includes c = subst (λ l. Includes c.args.kept.now.items c.args.atom l) (sym c.in_ok-push.ensures.ok) (c.clear_for.ensures.added c.if-clear_for.true)

pub returns-else-clear_for-clause-includes : goal.returns-else-clear_for-clause-includes
returns-else-clear_for-clause-includes c = c.clear_for.ensures.implied c.if-clear_for.false

use Rattle.cps_p_linear.proofs.Gauges.{fresh_now, fresh_sum}
use Rattle.cps_p_linear.proofs.gauge.look.Goals as goal

pub returns-then-is_for-clause-recalls : goal.returns-then-is_for-clause-recalls
returns-then-is_for-clause-recalls c = fresh_now c.args.store.now c.args.task.now.terms.now c.refresh.new.gauge c.in_ok-refresh.ensures.fresh

pub returns-then-is_for-clause-sum : goal.returns-then-is_for-clause-sum
returns-then-is_for-clause-sum c = fresh_sum c.args.store.now c.args.task.now.terms.now c.refresh.new.gauge c.requires.range.measurable c.in_ok-refresh.ensures.fresh

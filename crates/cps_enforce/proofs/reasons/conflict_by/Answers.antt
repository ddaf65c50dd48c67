-- The denials of facts beside which a body cannot hold are a conflict.
use Rattle.cps_enforce.proofs.Denials.{on_ok}
use Rattle.cps_enforce.proofs.Tasks.{refuted_conflict}
use Rattle.cps_enforce.proofs.reasons.conflict_by.Goals as goal

pub returns : goal.returns
returns c = on_ok c.deny_both.result _ _ c.deny_both.ensures (λ denied body refuted. refuted_conflict c.args.past.now c.args.enforcement.now c.args.facts.now c.deny_both.new.reason.items body denied refuted)

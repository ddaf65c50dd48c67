-- Behind the status of a solution stands what stands behind no value.
use Rattle.cps_cert.proofs.Judging.{behind_status}
use Rattle.cps_cert.proofs.response.take_status.Goals as goal

pub returns-then-is_text-clause-next : goal.returns-then-is_text-clause-next
returns-then-is_text-clause-next c = behind_status c.args.model.now c.args.line.now c.behind_values.result (c.is_text.ensures.0 c.if-is_text.true) (rw c.new.ensures at c.behind_values.ensures.next)

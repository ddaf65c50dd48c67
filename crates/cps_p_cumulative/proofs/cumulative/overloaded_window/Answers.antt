use Rattle.cps_p_cumulative.specs.Running.{body_of}
use Rattle.cps_p_cumulative.proofs.Levelled.{ok_true}
use Rattle.cps_p_cumulative.proofs.Relied.{refuted-impossible}
use Rattle.cps_p_cumulative.proofs.cumulative.overloaded_window.Goals as goal

pub returns-then-branch : goal.returns-then-branch
returns-then-branch c =
    refuted-impossible c.args.past.now (body_of c.args.resource.now) c.refute_window.new.facts.items
    (c.refute_window.ensures (ok_true c.refute_window.result c.in_ok-refute_window.field-0 c.in_ok-refute_window.was c.if-branch.true))

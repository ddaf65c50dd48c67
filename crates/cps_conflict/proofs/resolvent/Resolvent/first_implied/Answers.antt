use Rattle.std.proofs.Common.{arith, ap, ◌∙◌}
use Rattle.cps_conflict.specs.Drafts.{Draft}
use Rattle.cps_conflict.proofs.Drafting.{first_found}
use Rattle.cps_conflict.proofs.resolvent.Resolvent.first_implied.Goals as goal

pub returns-then-fallen-atom : goal.returns-then-fallen-atom
returns-then-fallen-atom c =
    first_found c.as_slice-earlier.result.now c.args.self.now.earlier _ c.args.atom c.loop-count.first c.sooner-first.result (c.as_slice-earlier.ensures.value ∙ ap (λ (d : Draft). d.earlier) c.self.view_is)
    (omega (arith, c.loop-count-test.true, c.if-count-earlier.true)) c.sooner-first.ensures c.loop-count.invariant

pub loop-count-preserved : goal.loop-count-preserved
loop-count-preserved c =
    first_found c.as_slice-earlier.result.now c.args.self.now.earlier _ c.args.atom c.loop-count.first c.sooner-first.result (c.as_slice-earlier.ensures.value ∙ ap (λ (d : Draft). d.earlier) c.self.view_is)
    (omega (arith, c.loop-count-test.true, c.if-count-earlier.true)) c.sooner-first.ensures c.loop-count.invariant

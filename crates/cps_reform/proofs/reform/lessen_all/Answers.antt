-- One term more weighs less, and the next one still weighs what it did.
use Rattle.cps_reform.specs.Cores.{lessened}
use Rattle.cps_reform.proofs.Loops.{changes_one, weighs_next}
use Rattle.cps_reform.proofs.reform.lessen_all.Goals as goal

pub loop-term-preserved : goal.loop-term-preserved
loop-term-preserved c = changes_one (lessened c.args.weight) c.args.terms.now c.loop-term.terms c.loop-term.term-index _ c.lessen.result c.loop-term-test.true c.loop-term.invariant c.lessen.ensures

pub lessen-requires : goal.lessen-requires
lessen-requires c =
    weighs_next (lessened c.args.weight) c.args.terms.now c.loop-term.terms c.loop-term.term-index c.args.weight _ c.loop-term-test.true c.loop-term.invariant c.requires

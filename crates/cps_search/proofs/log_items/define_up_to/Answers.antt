use Rattle.cps_search.proofs.LogGrowth.{grows_not, grows_more}
use Rattle.cps_search.proofs.log_items.define_up_to.Goals as goal

pub loop-place-init : goal.loop-place-init
loop-place-init c = λ z ungrown. grows_not c.args.instance.now z c.args.tracer.now

pub loop-place-preserved : goal.loop-place-preserved
loop-place-preserved c = λ z ungrown. grows_more c.args.instance.now z _ _ _ (c.loop-place.invariant z ungrown) (c.in_ok-define_next.ensures z ungrown)

use Rattle.std.proofs.Common.{refl, true≢false}
use Rattle.cps_conflict.proofs.Minimising.{Carries-trans, Carries-set}
use Rattle.cps_conflict.proofs.minimiser.Minimiser.fail.Goals as goal

pub loop-index-preserved-then-index-len : goal.loop-index-preserved-then-index-len
loop-index-preserved-then-index-len c =
    Carries-trans c.args.self.now c.loop-index.self _ c.loop-index.invariant (Carries-set c.loop-index.self _ c.in-Some.index _ refl refl refl (λ earlier a nodes fine on. absurd (true≢false fine)))

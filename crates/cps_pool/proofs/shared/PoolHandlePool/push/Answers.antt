-- A solution of the pool's model is one of the model that its tag names.
use Rattle.std.proofs.Common.{◌∙◌, subst, sym}
use Rattle.cps_model.specs.Solutions.{IsSolution}
use Rattle.cps_pool.specs.Pools.{Found}
use Rattle.cps_pool.proofs.Naming.{kept_by}
use Rattle.cps_pool.proofs.shared.PoolHandlePool.push.Goals as goal

pub push_shown-requires : goal.push_shown-requires
push_shown-requires g c =
    let p = c.self.inside.pool.now in
    let same = c.from_vec.ensures ∙ c.in_ok-values.ensures.items in
    let solution : IsSolution p.model.now c.args.solution.now = subst (λ (found : Found). IsSolution found.model c.args.solution.now) (sym c.self.view_is) c.requires in
    λ _. kept_by p.model.now p.found.tag c.args.solution.now c.from_vec.result p.named same solution

use Rattle.std.proofs.Common.{ℕ, ◌*◌, ap, ◌∙◌}
use Rattle.cps_gen.specs.Parts.{in_force}
use Rattle.cps_gen.specs.Jobshop.{no_sooner, last_task}
use Rattle.cps_gen.specs.Shops.{draws_in}
use Rattle.cps_gen.proofs.Lists.{made_more}
use Rattle.cps_gen.proofs.jobshop.add_ends.Goals as goal

pub loop-job-preserved : goal.loop-job-preserved
loop-job-preserved c =
    let shop = c.args.shop.now in
    let n = shop.size in
    let g = draws_in shop in
    c.in_ok-push.ensures.items
    ∙ made_more (λ job. in_force (no_sooner g n (n * n) (last_task n job))) c.loop-job.job c.args.constraints.now.items c.loop-job.constraints.items _
    (c.in_ok-no_sooner.ensures ∙ ap (λ (k : ℕ). in_force (no_sooner g n k c.last_task-last.result)) c.square-end.ensures.value
    ∙ ap (λ (k : ℕ). in_force (no_sooner g n (n * n) k)) c.last_task-last.ensures.value)
    c.loop-job.invariant

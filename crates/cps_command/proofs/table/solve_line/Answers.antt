-- The line's options are those of the table.
use Rattle.std.proofs.Common.{ap₂, ◌∙◌}
use Rattle.std.proofs.lemmas.Result.{IfOk-weaker}
use Rattle.clap.specs.Words.{with_rule}
use Rattle.cps_command.specs.Rules.{solve_line}
use Rattle.cps_command.proofs.Simple.{stays_local}
use Rattle.cps_command.proofs.table.solve_line.Goals as goal

pub returns-clause-app : goal.returns-clause-app
unfolding solve_line
returns-clause-app c =
    let workers = c.in_ok-arg.ensures.shape c.workers_option.ensures.local ∙ ap₂ with_rule c.new.ensures.app c.workers_option.ensures.rule in
    let conflicts = c.in_ok-arg-2.ensures.shape c.conflicts_option.ensures.local ∙ ap₂ with_rule workers c.conflicts_option.ensures.rule in
    let seed = c.in_ok-arg-3.ensures.shape c.seed_option.ensures.local ∙ ap₂ with_rule conflicts c.seed_option.ensures.rule in
    let interleave = c.in_ok-arg-4.ensures.shape c.interleave_option.ensures.local ∙ ap₂ with_rule seed c.interleave_option.ensures.rule in
    let gap = c.in_ok-arg-5.ensures.shape c.gap_option.ensures.local ∙ ap₂ with_rule interleave c.gap_option.ensures.rule in
    IfOk-weaker c.arg-6.result _ _ (λ r added. added.shape c.log_option.ensures.local ∙ ap₂ with_rule gap c.log_option.ensures.rule) c.arg-6.ensures

pub returns-clause-local : goal.returns-clause-local
returns-clause-local c =
    let workers = stays_local _ _ _ c.in_ok-arg.ensures c.new.ensures.local c.workers_option.ensures.local in
    let conflicts = stays_local _ _ _ c.in_ok-arg-2.ensures workers c.conflicts_option.ensures.local in
    let seed = stays_local _ _ _ c.in_ok-arg-3.ensures conflicts c.seed_option.ensures.local in
    let interleave = stays_local _ _ _ c.in_ok-arg-4.ensures seed c.interleave_option.ensures.local in
    let gap = stays_local _ _ _ c.in_ok-arg-5.ensures interleave c.gap_option.ensures.local in
    IfOk-weaker c.arg-6.result _ _ (λ r added. stays_local _ _ _ added gap c.log_option.ensures.local) c.arg-6.ensures

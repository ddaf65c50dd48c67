-- The line's arguments are those of the table.
use Rattle.std.proofs.Common.{ap₂, ◌∙◌}
use Rattle.std.proofs.lemmas.Result.{IfOk-weaker}
use Rattle.clap.specs.Words.{with_rule}
use Rattle.cps_command.specs.Rules.{generating_line}
use Rattle.cps_command.proofs.Simple.{stays_local}
use Rattle.cps_command.proofs.table.generating_line.Goals as goal

pub returns-clause-app : goal.returns-clause-app
unfolding generating_line
returns-clause-app c =
    let family = c.in_ok-arg.ensures.shape c.family_argument.ensures.local ∙ ap₂ with_rule c.new.ensures.app c.family_argument.ensures.rule in
    let size = c.in_ok-arg-2.ensures.shape c.size_argument.ensures.local ∙ ap₂ with_rule family c.size_argument.ensures.rule in
    IfOk-weaker c.arg-3.result _ _ (λ r added. added.shape c.drawing_argument.ensures.local ∙ ap₂ with_rule size c.drawing_argument.ensures.rule) c.arg-3.ensures

pub returns-clause-local : goal.returns-clause-local
returns-clause-local c =
    let family = stays_local _ _ _ c.in_ok-arg.ensures c.new.ensures.local c.family_argument.ensures.local in
    let size = stays_local _ _ _ c.in_ok-arg-2.ensures family c.size_argument.ensures.local in
    IfOk-weaker c.arg-3.result _ _ (λ r added. stays_local _ _ _ added size c.drawing_argument.ensures.local) c.arg-3.ensures

-- The lines are those of the commands that generate.
use Rattle.std.proofs.Common.{ap, ap₂, ◌∙◌}
use Rattle.std.proofs.lemmas.Result.{IfOk-weaker}
use Rattle.clap.specs.Words.{App, app_of, with_subcommand}
use Rattle.cps_command.specs.Rules.{with_generating_lines}
use Rattle.cps_command.proofs.table.with_generating_lines.Goals as goal

pub returns : goal.returns
unfolding with_generating_lines
returns c =
    let generate = c.in_ok-subcommand.ensures.shape c.in_ok-generating_line.ensures.local ∙ ap (with_subcommand (app_of c.args.table)) (ap (λ (a : App). a.top) c.in_ok-generating_line.ensures.app) in
    IfOk-weaker c.subcommand-2.result _ _ (λ r added. added.shape c.in_ok-generating_line-2.ensures.local
    ∙ ap₂ with_subcommand generate (ap (λ (a : App). a.top) c.in_ok-generating_line-2.ensures.app)) c.subcommand-2.ensures

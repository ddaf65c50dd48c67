-- The lines are those of the commands that read.
use Rattle.std.proofs.Common.{ap, ap₂, ◌∙◌}
use Rattle.std.proofs.lemmas.Result.{IfOk-weaker}
use Rattle.clap.specs.Words.{App, app_of, with_subcommand}
use Rattle.cps_command.specs.Rules.{with_reading_lines, validate_line, print_line, check_line}
use Rattle.cps_command.proofs.table.with_reading_lines.Goals as goal

pub returns : goal.returns
unfolding with_reading_lines validate_line print_line check_line
returns c =
    let solve = c.in_ok-subcommand.ensures.shape c.in_ok-solve_line.ensures.local ∙ ap (with_subcommand (app_of c.args.table)) (ap (λ (a : App). a.top) c.in_ok-solve_line.ensures.app) in
    let validate = c.in_ok-subcommand-2.ensures.shape c.new.ensures.local ∙ ap₂ with_subcommand solve (ap (λ (a : App). a.top) c.new.ensures.app) in
    let print = c.in_ok-subcommand-3.ensures.shape c.new-2.ensures.local ∙ ap₂ with_subcommand validate (ap (λ (a : App). a.top) c.new-2.ensures.app) in
    IfOk-weaker c.subcommand-4.result _ _ (λ r added. added.shape c.new-3.ensures.local
    ∙ ap₂ with_subcommand print (ap (λ (a : App). a.top) c.new-3.ensures.app)) c.subcommand-4.ensures

-- The lines are those of the table.
use Rattle.std.proofs.Common.{ap, ◌∙◌, ◌≡◌}
use Rattle.std.proofs.lemmas.Result.{IfOk-weaker}
use Rattle.clap.specs.Words.{app_of}
use Rattle.clap.specs.Simple.{on_top, app_of_fields}
use Rattle.cps_command.specs.Rules.{command_table, with_generating_lines, with_reading_lines, wants_subcommand}
use Rattle.cps_command.proofs.table.command_table.Goals as goal

pub returns : goal.returns
unfolding command_table
returns c =
    let top : app_of c.subcommand_required-table.result ≡ on_top wants_subcommand (app_of c.new.result) = ap app_of_fields c.subcommand_required-table.ensures in
    let none = top ∙ ap (on_top wants_subcommand) c.new.ensures.app in
    let reading = c.in_ok-table.ensures ∙ ap with_reading_lines none in
    IfOk-weaker c.with_generating_lines.result _ _ (λ r all. all ∙ ap with_generating_lines reading) c.with_generating_lines.ensures
